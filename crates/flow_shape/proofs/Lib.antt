pub mod LayoutLemmas
pub mod FaultLemmas
pub mod ShapeLemmas
