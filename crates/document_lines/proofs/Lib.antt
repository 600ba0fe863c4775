pub mod TreeRules
pub mod LineForms
pub mod NodeLines
pub mod EntryLines
