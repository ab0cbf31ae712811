pub mod StoreLaws
pub mod ValueLaws
