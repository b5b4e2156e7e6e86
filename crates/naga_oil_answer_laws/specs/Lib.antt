-- Worked rows of what a composer answers, keeps, registers and forgets.
mod CallsRows
mod StateRows
mod AlikeRows
mod AdditionRows
mod MakesRows
mod KeptRows
mod MissingRows
mod RunRows
