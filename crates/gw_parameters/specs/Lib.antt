-- WHERE A NUMBER STANDS
pub mod Operands
pub mod Texts
-- WHAT IS ASKED FOR
pub mod Parameters
pub mod Refusals
pub mod Points
