pub mod Enumerations
pub mod OneTable
pub mod Along
mod TrialOrder
mod Readings
mod FirstTrials
mod TrialTurns
mod OnReports
pub mod OneVerdict
mod ListedFamilies
mod RowDifferences
mod OperationLists
mod FamilyFacts
mod PairFacts
pub mod Verdicts
mod ReportVerdicts
mod MadeReports
