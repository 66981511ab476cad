-- Lemmas on the search.
pub mod RunLaws
pub mod CallLemmas
pub mod WorkedRows
pub mod WorkedAppend
pub mod WorkedJoin
pub mod WorkedControlRuns
pub mod WorkedGroupRuns
pub mod RunCounts
pub mod WorkedSteps
pub mod WorkedLoadRuns
pub mod WorkedGrowth
