mod OwnWindows
mod Lists
mod Repeated
