-- The words of a table file and the signs of its conditions: the reader looks for them, and the
-- writer writes them. LF, space and comma are in `Lines`.
use Prim.Native.Char.{code}
use Rattle.std.specs.Prelude.{ℕ, List}
use Rattle.text.specs.Bytes.{bytes}
use Rattle.text.specs.declared.Version.{Version}
use Rattle.text.specs.declared.Version.TheVariants.{First}

-- "Line 1 is `PNP ` and the 16-bit version as four digits 0-9, A-F (base 16): `PNP 0001`."
abbrev pub PNP : List ℕ
PNP = bytes "PNP "

abbrev pub version1 : List ℕ
version1 = bytes "0001"

-- The versions that are read, each with its digits.
abbrev pub version_digits : Version → List ℕ
version_digits First = version1

-- "Line 2 is `signals`, then a space and a name for each signal."
abbrev pub signals_word : List ℕ
signals_word = bytes "signals"

-- "Every further line is `rule `, then twelve fields".
abbrev pub rule_word : List ℕ
rule_word = bytes "rule "

-- "Terms joined by `|`", "factors joined by `&`", "`!` and a factor",
abbrev pub or_sign : ℕ
or_sign = code "|"

abbrev pub and_sign : ℕ
and_sign = code "&"

abbrev pub not_sign : ℕ
not_sign = code "!"

-- "or `0` (false), or `1` (true), or a choice in parentheses."
abbrev pub false_sign : ℕ
false_sign = code "0"

abbrev pub true_sign : ℕ
true_sign = code "1"

abbrev pub open_sign : ℕ
open_sign = code "("

abbrev pub close_sign : ℕ
close_sign = code ")"
