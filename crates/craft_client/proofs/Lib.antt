mod AllTries
mod OneTry
mod Packets
