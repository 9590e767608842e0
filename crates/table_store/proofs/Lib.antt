pub mod StoreWrites
