-- The first refusal of a list that is tested one by one.
use Rattle.misra_base.specs.Guidelines.{all_guidelines}
use Rattle.misra_base.specs.declared.guideline.Guideline.{Guideline}
use Rattle.misra_base.specs.declared.deviation.Deviation.{Deviation}
use Rattle.misra_base.specs.declared.category.Plan.{Plan}
use Rattle.desk_core.specs.Entries.{Entry, entries_refused, entry_refused, with_all_entries, with_entry}
use Rattle.std.proofs.Common.{◌≡◌, ◌∙◌, ◌<◌, ◌+◌, inl, inr, ℕ, List, ◌∷◌, map, length, drop, get_or, fold, Result, Ok, Err, Option, Some, None, ap, subst}
use Rattle.std.proofs.lemmas.List.{at_drop_more}
use Rattle.desk_core.specs.declared.stop.DeskStop.{DeskStop}
use Rattle.desk_tables.specs.declared.change.Write.{Write}
use Rattle.desk_core.specs.declared.decision.Decision.{Decision}
use Rattle.desk_core.specs.Answering.{Decides, Passes}
use Rattle.desk_core.specs.Refusals.{first_refusal}
use Rattle.desk_core.specs.Rows.{Row}

first_stop : (first : Option DeskStop) (stop : DeskStop) (l : List (Option DeskStop)) → first ≡ Some stop → first_refusal (first ∷ l) ≡ Some stop
first_stop first stop l e = ap (λ o. first_refusal (o ∷ l)) e

pub refused_at : {X : Type 0} (F : X → Option DeskStop) (xs : List X) (i : ℕ) (d : X) (stop : DeskStop) → i < length xs
    → first_refusal (map F xs) ≡ first_refusal (map F (drop i xs)) → Passes (F (get_or xs i d)) (Err stop)
    → Passes (first_refusal (map F xs)) (Err stop)
refused_at F xs i d stop h e (inl f) =
    inl (e ∙ at_drop_more (λ l. first_refusal (map F l)) xs i d h ∙ first_stop (F (get_or xs i d)) stop (map F (drop (i + 1) xs)) f)
refused_at F xs i d stop h e (inr c) = inr c

-- a row behind two refusals that do not hold
pub decides_behind : (a b : Option DeskStop) (row : Row) (effect : Option Write) (result : Result Decision DeskStop) → a ≡ None → b ≡ None → row.effect ≡ effect
    → Decides row result → Decides (record { refusals = a ∷ b ∷ row.refusals; effect = effect; reply = row.reply }) result
decides_behind a b row effect (Ok d) e f same h = (
  ap (λ o. first_refusal (o ∷ b ∷ row.refusals)) e ∙ ap (λ o. first_refusal (o ∷ row.refusals)) f ∙ h.0,
  h.1 ∙ ap (λ w. record { effect = w; reply = row.reply }) same,
)
decides_behind a b row effect (Err stop) e f same (inl h) =
    inl (ap (λ o. first_refusal (o ∷ b ∷ row.refusals)) e ∙ ap (λ o. first_refusal (o ∷ row.refusals)) f ∙ h)
decides_behind a b row effect (Err stop) e f same (inr h) = inr h

-- in the guidelines' order these are all entries
pub in_order_refused : (entries : List Entry) (deviations : List Deviation) (order : List Guideline) (result : Result (Unit {0}) DeskStop) → order ≡ all_guidelines
    → Passes (first_refusal (map (entry_refused entries deviations) order)) result → Passes (first_refusal (entries_refused entries deviations)) result
unfolding entries_refused
in_order_refused entries deviations order result is h = subst (λ (l : List Guideline). Passes (first_refusal (map (entry_refused entries deviations) l)) result) is h

pub in_order_planned : (entries : List Entry) (plan : Plan) (order : List Guideline) → order ≡ all_guidelines
    → fold (with_entry entries) plan order ≡ with_all_entries entries plan
unfolding with_all_entries
in_order_planned entries plan order is = ap (λ (l : List Guideline). fold (with_entry entries) plan l) is
