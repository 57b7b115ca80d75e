pub mod ListLemmas
pub mod ChannelLemmas
