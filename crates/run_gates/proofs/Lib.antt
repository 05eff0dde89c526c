pub mod Packets
pub mod PacketSizes
