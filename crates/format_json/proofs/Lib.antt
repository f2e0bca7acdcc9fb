pub mod ErrorResults
