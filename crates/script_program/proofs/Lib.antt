mod Carried
mod CarriedExpressions
mod CarriedStatements
mod Causes
mod Numbers
mod ShortNames
