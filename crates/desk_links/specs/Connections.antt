-- What a contract sees of the connections in memory.
use Rattle.std.specs.Prelude.{ℕ, Bool, true, false, List, [], ◌∷◌, ◌++◌, map, Some, Vec}
use Rattle.std.specs.declared.alloc.Global.{Global}
use Rattle.desk_outside.specs.Memory.{CallsView}
use Rattle.desk_links.specs.Accepting.{Situation}

-- the bytes left and written on the current connection, what was written before it, and the connections to come
pub record ConnectionsView : Type 0 where
  pub left : List ℕ
  pub written : List ℕ
  pub before : List (List ℕ)
  pub coming : List (List ℕ)

-- the connections, the calls on them, the accepts, and how many calls found no memory
pub record AcceptorView : Type 0 where
  pub connections : ConnectionsView
  pub calls : CallsView
  pub accepts : CallsView
  pub shortages : ℕ

-- the same of an acceptor without calls that fail
pub record SureAcceptorView : Type 0 where
  pub connections : ConnectionsView
  pub shortages : ℕ

abbrev pub lists_of : List (Vec ℕ Global) → List (List ℕ)
lists_of vectors = map (λ vector. vector.items) vectors

-- before the first connection nothing is left, and nothing is written
abbrev pub none_accepted : List (List ℕ) → ConnectionsView
none_accepted coming = record { left = []; written = []; before = []; coming = coming }

-- the next connection is current
abbrev pub after_next : List (List ℕ) → ConnectionsView → ConnectionsView
after_next [] c = c
after_next (bytes ∷ coming) c = record { left = bytes; written = []; before = c.before ++ c.written ∷ []; coming = coming }

abbrev pub is_coming : List (List ℕ) → Bool
is_coming [] = false
is_coming (bytes ∷ coming) = true

-- what a link never changes: what was written before, the connections to come, the accepts, and which calls fail
pub record LinkRest : Type 0 where
  pub before : List (List ℕ)
  pub coming : List (List ℕ)
  pub accepts : CallsView
  pub failing : List ℕ

abbrev pub link_rest : AcceptorView → LinkRest
link_rest a = record { before = a.connections.before; coming = a.connections.coming; accepts = a.accepts; failing = a.calls.failing }

-- what no read changes
pub record ReadRest : Type 0 where
  pub written : List ℕ
  pub shortages : ℕ
  pub other : LinkRest

abbrev pub read_rest : AcceptorView → ReadRest
read_rest a = record { written = a.connections.written; shortages = a.shortages; other = link_rest a }

-- what no write changes
pub record WriteRest : Type 0 where
  pub left : List ℕ
  pub other : LinkRest

abbrev pub write_rest : AcceptorView → WriteRest
write_rest a = record { left = a.connections.left; other = link_rest a }

-- the same of connections whose calls never fail
pub record SureRest : Type 0 where
  pub before : List (List ℕ)
  pub coming : List (List ℕ)

abbrev pub sure_rest : SureAcceptorView → SureRest
sure_rest a = record { before = a.connections.before; coming = a.connections.coming }

pub record SureReadRest : Type 0 where
  pub written : List ℕ
  pub shortages : ℕ
  pub other : SureRest

abbrev pub sure_read_rest : SureAcceptorView → SureReadRest
sure_read_rest a = record { written = a.connections.written; shortages = a.shortages; other = sure_rest a }

pub record SureWriteRest : Type 0 where
  pub left : List ℕ
  pub other : SureRest

abbrev pub sure_write_rest : SureAcceptorView → SureWriteRest
sure_write_rest a = record { left = a.connections.left; other = sure_rest a }

-- all of it is told
abbrev pub situation_of : ConnectionsView → Situation
situation_of c = record { left = Some c.left; written = Some c.written; before = Some c.before; coming = Some c.coming }
