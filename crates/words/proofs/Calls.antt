-- What is promised leaves one outcome.
use mathlib.Core.Path.{◌≡◌, sym, ap, ◌∙◌}
use mathlib.Core.Bool.{Bool, true, false, ◌||◌, true≢false}
use mathlib.Core.List.{List}
use Prim.Native.Nat.{ℕ}
use lib.ListN.{length}
use Rattle.task.specs.declared.Task.{Task}
use Rattle.task.specs.declared.list.Tasks.{Tasks}
use Rattle.task.specs.Limits.{most_tasks}
use Rattle.task.specs.Arrays.{Holds}
use Rattle.task.proofs.Held.{held}
use Rattle.answer.specs.declared.Answer.{Answer}
use Rattle.answer.specs.Answers.{row}
use Rattle.answer.proofs.Pinned.{answer_pinned}
use Rattle.words.specs.Words.{card_of, policy_of, tasks_of, code, written, misread, ragged, either, Answered, AnsweredWords}

module _ (card policy : ℕ) (l : List Task) (startup cycle words : List ℕ) where
  either_pinned : (n n' : ℕ) (s c w s' c' w' : List ℕ) (b : Bool) → either card policy l startup cycle words b n s c w → either card policy l startup cycle words b n' s' c' w' →
      (n ≡ n') × (s ≡ s') × (c ≡ c') × (w ≡ w')
  either_pinned n n' s c w s' c' w' true x y = (
    x.is_code ∙ sym y.is_code,
    x.tables.startup_kept ∙ sym y.tables.startup_kept,
    x.tables.cycle_kept ∙ sym y.tables.cycle_kept,
    x.words_kept ∙ sym y.words_kept,
  )
  either_pinned n n' s c w s' c' w' false x y =
      let e = answer_pinned (card_of card) (policy_of policy) l startup cycle x.answer y.answer s c s' c' x.promised y.promised in (
        x.is_code ∙ ap (λ (a : Answer). code (row a)) e.0 ∙ sym y.is_code,
        e.1,
        e.2,
        x.is_written ∙ ap (λ (a : Answer). written (row a) words) e.0 ∙ sym y.is_written,
      )

  -- `sholakpite_check_tasks_card` has one outcome, and so has `sholakpite_check_tasks`, which is the same for a wide card
  pub tasks_pinned : (n n' : ℕ) (s c w s' c' w' : List ℕ) → Answered card policy l startup cycle words n s c w → Answered card policy l startup cycle words n' s' c' w' →
      (n ≡ n') × (s ≡ s') × (c ≡ c') × (w ≡ w')
  tasks_pinned n n' s c w s' c' w' = either_pinned n n' s c w s' c' w' (misread card policy words)

-- what is promised for the tasks of a list of words is promised for the words, where they are not ragged
pub of_words : (card policy : ℕ) (list startup cycle words : List ℕ) (n : ℕ) (s c w : List ℕ) → ragged list ≡ false →
    Answered card policy (tasks_of list) startup cycle words n s c w → AnsweredWords card policy list startup cycle words n s c w
of_words card policy list startup cycle words n s c w = go (ragged list)
  where
    go : (b : Bool) → b ≡ false → Answered card policy (tasks_of list) startup cycle words n s c w →
        either card policy (tasks_of list) startup cycle words (b || misread card policy words) n s c w
    go true e x = absurd (true≢false e)
    go false e x = x

-- `sholakpite_check_card` has one outcome, and so has `sholakpite_check`
pub words_pinned : (card policy : ℕ) (list startup cycle words : List ℕ) (n n' : ℕ) (s c w s' c' w' : List ℕ) →
    AnsweredWords card policy list startup cycle words n s c w → AnsweredWords card policy list startup cycle words n' s' c' w' →
    (n ≡ n') × (s ≡ s') × (c ≡ c') × (w ≡ w')
words_pinned card policy list startup cycle words n n' s c w s' c' w' =
    either_pinned card policy (tasks_of list) startup cycle words n n' s c w s' c' w' (ragged list || misread card policy words)

-- `answered` has one outcome: the array holds a list, and for that list there is one
pub answered_pinned : (ts : Tasks) → length ts.items ≡ most_tasks → (card policy : ℕ) (startup cycle words : List ℕ) (n n' : ℕ) (s c w s' c' w' : List ℕ) →
    ((l : List Task) → Holds ts l → Answered card policy l startup cycle words n s c w) →
    ((l : List Task) → Holds ts l → Answered card policy l startup cycle words n' s' c' w') → (n ≡ n') × (s ≡ s') × (c ≡ c') × (w ≡ w')
answered_pinned ts full card policy startup cycle words n n' s c w s' c' w' x y = of_list _ (held ts full)
  where
    of_list : (l : List Task) → Holds ts l → (n ≡ n') × (s ≡ s') × (c ≡ c') × (w ≡ w')
    of_list l h = tasks_pinned card policy l startup cycle words n n' s c w s' c' w' (x l h) (y l h)
