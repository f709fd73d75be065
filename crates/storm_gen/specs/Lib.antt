pub mod Storm
