mod Parts
mod Digits
mod Sound
mod Reading
mod Names
