pub mod KeptClasses
