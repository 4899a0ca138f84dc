-- The lawful tapes of a plain session.
use Rattle.tape_laws.specs.History.{History, NoMark}
use Rattle.tape_laws.specs.Lawful.{IsLawful, IsWhole}
use Rattle.tape_laws.specs.PlainSession.{plain_session}
use Rattle.tape_laws.specs.declared.PlainLimits.{PlainLimits}

-- a history that may be cut short in its last dispatch
abbrev pub IsPlainLawful : PlainLimits → History NoMark → Type 0
IsPlainLawful limits history = IsLawful (plain_session limits) history

-- a history that ends with a whole dispatch
abbrev pub IsPlainWhole : PlainLimits → History NoMark → Type 0
IsPlainWhole limits history = IsWhole (plain_session limits) history
