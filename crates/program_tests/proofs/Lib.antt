pub mod TextLemmas
pub mod ExampleLemmas
pub mod PlainLemmas
pub mod WaysLemmas
pub mod MaskLemmas
pub mod StackLemmas
