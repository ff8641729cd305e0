mod Answered
mod Numbers
mod Pointed
mod Readable
mod TokenPlaces
