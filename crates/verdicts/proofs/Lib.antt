pub mod Verdicts
pub mod RuleVerdicts
pub mod Judging
pub mod JudgingValues
pub mod Equality
pub mod Nodes
