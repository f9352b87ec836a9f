pub mod LogOf
