pub mod ExpressionViews
pub mod NodeViews
pub mod Slices
pub mod StatementViews
