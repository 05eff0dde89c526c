mod ScriptsRead
mod NamesFit
mod GaugesApart
mod EventsCounted
mod ViewsTold
