-- Read `Demands` and the specs: nothing else has to be believed. What is promised besides stands by
-- subject: `Reading`, `Watching`, `Happening`, `Searching`, `Reporting`, `Loading`, `Writing`,
-- `Cases`. Below them are proofs: `WatchLaws`, `WatchCalls`; `LoadLaws`, `LoadTexts`;
-- `ConditionTexts`, `ConditionTrees`, `FileTexts`, `WriteTexts`; `VerdictMeaning`, `Answers`,
-- `SearchLaws`, `Entries`, `EarliestTrap`, `SameInput`, `StateNumbers`, `ScratchLaws`, `NeverFires`
-- and `Described` of the search; `ReportLaws` and `Reported`; `Starred`, `WholeReport`,
-- `LoadCases`, `WriteCases` and `Instances` of the worked cases.
pub mod Demands
pub mod Reading
pub mod Watching
pub mod Happening
pub mod Searching
pub mod Reporting
pub mod Loading
pub mod Writing
pub mod Cases
pub mod WatchLaws
pub mod WatchCalls
pub mod LoadLaws
pub mod LoadTexts
pub mod ConditionTexts
pub mod ConditionTrees
pub mod FileTexts
pub mod WriteTexts
pub mod VerdictMeaning
pub mod Answers
pub mod SearchLaws
pub mod Entries
pub mod EarliestTrap
pub mod SameInput
pub mod StateNumbers
pub mod ScratchLaws
pub mod NeverFires
pub mod Described
pub mod ReportLaws
pub mod Reported
pub mod Starred
pub mod WholeReport
pub mod LoadCases
pub mod WriteCases
pub mod Instances
