pub mod ScriptSoFar
pub mod ScriptsSoFar
pub mod ScriptsReported
