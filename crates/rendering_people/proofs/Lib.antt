pub mod CountsWhole
pub mod FormsLent
pub mod CountsSteps
pub mod RaisedWhole
