use Rattle.std.proofs.Common.{sym, arith}
use Rattle.post_queue.proofs.Steps.{posts}
use Rattle.post_queue.proofs.post_box.PostBox.post.Goals as goal

pub push_as-requires-clause-rule : goal.push_as-requires-clause-rule
push_as-requires-clause-rule g c = λ n. let p = c.args.pass.now in posts n _ _ _ p.posts (sym p.poster_is) (sym p.next_is) (omega arith, c.requires.job)
