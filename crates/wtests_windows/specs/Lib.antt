pub mod AffineMaps
