-- What is said of a list for a card, and of the lengths of two buffers, before any slot is given. Document 01, "What comes back".
use Rattle.std.specs.Prelude.{◌≡◌, List, ℕ, Result, Ok, Err}
use Rattle.card.specs.declared.Card.{Card}
use Rattle.task.specs.declared.Task.{Task}
use Rattle.admission.specs.declared.Measures.{Measures}
use Rattle.refusal.specs.declared.Refused.{Refused}
use Rattle.task.specs.Tasks.{latest, hyperperiod, load}
use Rattle.refusal.specs.Refusals.{number_of, sound, refused}
use Rattle.task.specs.Checks.{first_refusal}

-- M, H and L
abbrev pub measures_of : List Task → Measures
measures_of l = record { latest = latest l; hyperperiod = hyperperiod l; load = load l (hyperperiod l) }

pub record IsSound (card : Card) (l : List Task) (startup cycle : ℕ) (m : Measures) : Type 0 where
  pub no_refusal : first_refusal card l startup cycle ≡ sound
  pub measured : m ≡ measures_of l

-- refused exactly by the first refusal, sound exactly where there is none
abbrev pub Admits : Card → List Task → ℕ → ℕ → Result Measures Refused → Type 0
Admits card l startup cycle (Err e) = first_refusal card l startup cycle ≡ refused (number_of e.why) e.task
Admits card l startup cycle (Ok m) = IsSound card l startup cycle m
