pub mod WalkerLaws
