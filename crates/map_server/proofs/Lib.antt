pub mod ServerWordLemmas
pub mod ServerRunLemmas
pub mod ServerLemmas
pub mod PostLemmas
pub mod KeeperSends
