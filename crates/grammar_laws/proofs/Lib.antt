mod Shapes
mod StatementShapes
mod Cleans
mod FirstLocals
mod Formed
mod OneTree
