pub mod Results
pub mod Jobs
pub mod Numbers
