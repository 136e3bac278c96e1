-- What the tables of an order tell, by the numbers of points and threads.
use Rattle.std.specs.Prelude.{ℕ, ◌+◌, ◌*◌, ◌==◌, Bool, false, ◌&&◌, ◌||◌, if◌then◌else◌, slice_index, slice_index_or}
use Rattle.flow_facts.specs.declared.facts.Order.{Order}

abbrev pub thread_in : Order → ℕ → ℕ
thread_in order point = slice_index order.threads.items point

abbrev pub creation_in : Order → ℕ → ℕ
creation_in order thread = slice_index order.creations.items thread

abbrev pub is_plain_in : Order → ℕ → Bool
is_plain_in order thread = slice_index_or order.plain.items thread false

abbrev pub is_settled_in : Order → ℕ → ℕ → Bool
is_settled_in order point thread = slice_index_or order.settled.items (point * order.count + thread) false

-- two points of the initial thread; one of it and one of a plain thread that is settled there; two of one plain thread;
-- and two of plain threads, each settled where the other is made
abbrev pub ordered_at : Order → ℕ → ℕ → Bool
ordered_at order a b = let s = thread_in order a in let t = thread_in order b in
    if s == 0 then ((t == 0) || (is_plain_in order t && is_settled_in order a t)) else
    if t == 0 then (is_plain_in order s && is_settled_in order b s) else
    if s == t then is_plain_in order s else
    (is_plain_in order s && is_plain_in order t && is_settled_in order (creation_in order s) t && is_settled_in order (creation_in order t) s)
