-- `Page::word` meets its contract. Assumes nothing.
use Rattle.std.proofs.Common.{rules, ◌≡◌, ◌+◌, ◌≤◌, min, length, get_or, set, arith}
use Rattle.std.proofs.Math.Seq.{set_out}
use Rattle.put.specs.Inner.Puts.{last_place}
use Rattle.put.proofs.Pages.{next_byte}
use Rattle.put.proofs.Page.word.Goals as goal
use Rattle.put.proofs.Page.word.Goals.{then-at-self, else-at-self}

pub loop-b-preserved : goal.loop-b-preserved
loop-b-preserved c =
    let next = next_byte c.args.self.now c.args.bytes.now c.loop-b.invariant c.loop-b-test.true in
    elim c.if-at-self.branch [
      | then-at-self w ↦
          let short : length c.loop-b.self.out.now ≤ last_place = search rules in
          let place : min (c.loop-b.at + 1) last_place ≡ c.loop-b.at + 1 =
          omega (arith, short, w.if-at-self.true) in
          rw (w.self-is, w.at-is) (rw place at next)
      | else-at-self w ↦
          let past : set c.loop-b.self.out.now c.loop-b.at (get_or c.args.bytes.now c.loop-b.b-index 0)
          ≡ c.loop-b.self.out.now = set_out _ _ _ w.if-at-self.false in
          rw (w.self-is, w.at-is, w.saturating_add-at.ensures) (rw past at next)
    ]
