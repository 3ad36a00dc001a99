-- A text and a buffer leave one result and one content.
use mathlib.Core.Path.{◌≡◌}
use mathlib.Core.Bool.{Bool, true, false}
use mathlib.Core.List.{List}
use Prim.Native.Nat.{ℕ}
use lib.Dec.{ltb}
use lib.ListN.{length}
use Rattle.std.specs.Prelude.{Option}
use Rattle.decimal.specs.Laying.{Wrote, either_way}

pub wrote_pinned : (text buffer : List ℕ) (r r' : Option ℕ) (left left' : List ℕ) →
    Wrote text buffer r left → Wrote text buffer r' left' → (r ≡ r') × (left ≡ left')
wrote_pinned text buffer r r' left left' = go (ltb (length buffer) (length text))
  where
    go : (b : Bool) → either_way b text buffer r left → either_way b text buffer r' left' → (r ≡ r') × (left ≡ left')
    go true x y = (cc, cc)
    go false x y = (cc, cc)
