-- A call in 64-bit words, and what it is answered: for callers in C and Rust.
use Rattle.std.specs.Prelude.{◌≡◌, Bool, true, false, not, ◌||◌, List, [], ◌∷◌, ◌++◌, ℕ, zero, suc, ◌%◌, eqb, ltb, length, drop}
use Rattle.card.specs.declared.Card.{Card}
use Rattle.card.specs.declared.Card.TheVariants.{Wide, Small}
use Rattle.task.specs.declared.Task.{Task}
use Rattle.task.specs.Tasks.{task_of}
use Rattle.schedule.specs.declared.Policy.{Policy}
use Rattle.schedule.specs.declared.Policy.TheVariants.{ListOrder, RateMonotonic, DeadlineMonotonic, Edf}
use Rattle.answer.specs.declared.Answer.{Answer}
use Rattle.answer.specs.Answers.{Row, refused, overloaded, missed, feasible, row}
use Rattle.answer.specs.Promise.{Promised, Unchanged}

-- the card of callers that name none (`wide_card_lem`)
abbrev pub wide_card : ℕ
wide_card = 0

abbrev pub last_card : ℕ
last_card = 1

-- 0 wide, 1 small
abbrev pub card_of : ℕ → Card
card_of zero = Wide
card_of (suc n) = Small

abbrev pub last_policy : ℕ
last_policy = 3

-- 0 list, 1 rate monotonic, 2 deadline monotonic, 3 earliest deadline first
abbrev pub policy_of : ℕ → Policy
policy_of zero = ListOrder
policy_of (suc zero) = RateMonotonic
policy_of (suc (suc zero)) = DeadlineMonotonic
policy_of (suc (suc (suc n))) = Edf

-- the tasks of a list of words, O C D T for each
abbrev pub tasks_of : List ℕ → List Task
tasks_of (O ∷ C ∷ D ∷ T ∷ words) = task_of O C D T ∷ tasks_of words
tasks_of (O ∷ C ∷ D ∷ []) = []
tasks_of (O ∷ C ∷ []) = []
tasks_of (O ∷ []) = []
tasks_of [] = []

-- 0 feasible, 1 missed, 2 overloaded, 3 refused
abbrev pub code : Row → ℕ
code (feasible q) = 0
code (missed i d) = 1
code (overloaded a b) = 2
code (refused number i) = 3

-- the answer's values, in the paper's order
abbrev pub values : Row → List ℕ
values (feasible q) =
    q.latest ∷ q.hyperperiod ∷ q.load ∷ q.startup_idle ∷ q.cycle_idle ∷ q.startup_preemptions ∷ q.cycle_preemptions ∷ []
values (missed i d) = i ∷ d ∷ []
values (overloaded a b) = a ∷ b ∷ []
values (refused number i) = number ∷ i ∷ []

-- words not named keep their values
abbrev pub written : Row → List ℕ → List ℕ
written r words = values r ++ drop (length (values r)) words

abbrev pub row_length : ℕ
row_length = 8

-- the card is above 1, or the policy is above 3
abbrev pub unnamed : ℕ → ℕ → Bool
unnamed card policy = ltb last_card card || ltb last_policy policy

-- or the answer's buffer is shorter than eight
abbrev pub misread : ℕ → ℕ → List ℕ → Bool
misread card policy words = unnamed card policy || ltb (length words) row_length

-- O, C, D and T
abbrev pub task_words : ℕ
task_words = 4

-- the words of a list are not a multiple of four
abbrev pub ragged : List ℕ → Bool
ragged list = not (eqb (length list % task_words) 0)

-- what is answered for a call that is not understood
abbrev pub not_understood : ℕ
not_understood = 4

-- `startup`, `cycle` and `words` are the buffers as they were lent, s, c and w as they are left
module _ (card policy : ℕ) (l : List Task) (startup cycle words : List ℕ) where
  pub record NotUnderstood (n : ℕ) (s c w : List ℕ) : Type 0 where
    pub is_code : n ≡ not_understood
    pub tables : Unchanged startup cycle s c
    pub words_kept : w ≡ words

  pub record Understood (n : ℕ) (s c w : List ℕ) : Type 0 where
    pub answer : Answer
    pub promised : Promised (card_of card) (policy_of policy) l startup cycle answer s c
    pub is_code : n ≡ code (row answer)
    pub is_written : w ≡ written (row answer) words

  abbrev pub either : Bool → ℕ → List ℕ → List ℕ → List ℕ → Type 0
  either true n s c w = NotUnderstood n s c w
  either false n s c w = Understood n s c w

-- a list of tasks: 4 exactly where the call is misread
abbrev pub Answered : ℕ → ℕ → List Task → List ℕ → List ℕ → List ℕ → ℕ → List ℕ → List ℕ → List ℕ → Type 0
Answered card policy l startup cycle words = either card policy l startup cycle words (misread card policy words)

-- a list of words: 4 exactly where it is ragged or the call is misread
abbrev pub AnsweredWords : ℕ → ℕ → List ℕ → List ℕ → List ℕ → List ℕ → ℕ → List ℕ → List ℕ → List ℕ → Type 0
AnsweredWords card policy list startup cycle words =
    either card policy (tasks_of list) startup cycle words (ragged list || misread card policy words)
