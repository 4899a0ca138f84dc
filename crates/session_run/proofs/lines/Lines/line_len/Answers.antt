-- The first newline ends the first line.
use Rattle.session_run.proofs.Holding.{searched_none, searched_some}
use Rattle.session_run.proofs.lines.Lines.line_len.Goals as goal

pub returns-clause-none : goal.returns-clause-none
returns-clause-none c = searched_none _ _ c.memchr.result c.held.ensures.held c.memchr.ensures

pub returns-clause-some : goal.returns-clause-some
returns-clause-some c = searched_some _ _ c.memchr.result c.held.ensures.held c.memchr.ensures
