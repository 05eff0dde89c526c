mod Seats
mod Accounted
mod Breaking
