use Rattle.std.proofs.Common.{◌≡◌, ◌+◌, length}
use Rattle.std.specs.Option.{option_map}
use Rattle.craq_workers.specs.Posts.{node_posts}
use Rattle.craq_workers.proofs.store.Store.hire_workers.Given as goal

-- the threads that have begun and the workers that are left are as many as there were and the node's workers
abbrev pub invariant-loop-worker : goal.invariant-loop-worker
invariant-loop-worker g l =
    length l.hired.items + length l.worker-iterator.rest.items ≡ length l.fn.hired.items + length (node_posts l.fn.form.chain_threads (option_map (λ n. n.value.name) l.joining.route.node))
