-- The notes are kept as one list more.
use Rattle.std.proofs.Common.{[], ◌++◌, ◌∷◌, ◌≡◌}
use Rattle.worker_parts.proofs.Keeping.{notes_kept}
use Rattle.worker_parts.proofs.mem_journal.MemJournalJournal.noted.Goals as goal

pub returns-clause-ok : goal.returns-clause-ok
returns-clause-ok c =
    let kept : c.push_reserved.new.self.items ≡ c.args.self.now.notes.items ++ c.replace-taken.result ∷ [] = cc in
    let taken : c.replace-taken.result ≡ c.args.notes.now = cc in
    notes_kept c.args.self.now.notes.items c.push_reserved.new.self.items c.replace-taken.result c.args.notes.now kept taken
