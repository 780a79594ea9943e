pub mod ByCase
