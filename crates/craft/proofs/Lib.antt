mod Asking
mod Planned
mod Serving
