-- A list that a loop writes from the front, and what it then holds.
--   set-prefix, prefix-all                     `take i s ++ drop i t`: s written over t
--   laid-front, laid-past, laid-long           `s ++ drop n t`, where s has n: its front, what is past it, its length
--   front, front-next, front-all               a list mapped in place
--   table-next, set-table                      `table k f ++ drop k l`: a list filled by a function
--   filled-start, filled_more, filled-all      an array filled by a function: nothing, one element more, all of it
--   filled-same, filled-rest                   .. by functions that are equal there; what is past the filled part
use Prim.Native.Nat.{ℕ, zero, suc, ◌+◌, ◌≤◌, ◌<◌}
use native.Mathlib.Nat.{le_of_suc-le-suc}
use native.Mathlib.Numerals.{add-one}
use native.Mathlib.Omega.{arith}
use mathlib.Core.Path.{◌≡◌, refl, ap, ap₂, sym, ◌∙◌}
use mathlib.Core.List.{List, [], ◌∷◌, ◌++◌, map}
use mathlib.Core.List.{append_assoc, append-nil}
use lib.ListN.{length, take, drop, set, get_or, replicate, length-append, length-drop, length-replicate}
use lib.Seq.{drop_at, drop-cons, get_or-append-add, get_or-drop, set_at, take-append_seam}
use Rattle.whole.specs.Tables.{table, table_from, filled}
use Rattle.whole.proofs.Lists.Tables.{table-length, table-last, table_same}

module _ {A : Type 0} where
  prefix-suc : (s t : List A) (i : ℕ) (d : A) → i < length s → length s ≤ length t →
      set (take i s ++ drop i t) i (get_or s i d) ≡ take (suc i) s ++ drop (suc i) t
  prefix-suc [] t i d h k = absurd (omega arith)
  prefix-suc (a ∷ s) [] i d h k = absurd (omega arith)
  prefix-suc (a ∷ s) (b ∷ t) zero d h k = refl
  prefix-suc (a ∷ s) (b ∷ t) (suc i) d h k =
      ap (λ (l : List A). a ∷ l) (prefix-suc s t i d (le_of_suc-le-suc h) (le_of_suc-le-suc k))

  -- one word more
  pub set-prefix : (s t : List A) (i : ℕ) (d : A) → i < length s → length s ≤ length t →
      set (take i s ++ drop i t) i (get_or s i d) ≡ take (i + 1) s ++ drop (i + 1) t
  set-prefix s t i d h k = rw add-one (prefix-suc s t i d h k)

  take_all : (s : List A) → take (length s) s ≡ s
  take_all [] = refl
  take_all (a ∷ s) = ap (λ (l : List A). a ∷ l) (take_all s)

  -- all words
  pub prefix-all : (s t : List A) (i : ℕ) → i ≡ length s → take i s ++ drop i t ≡ s ++ drop (length s) t
  prefix-all s t i e = rw (e, take_all)

  pub take-end : (s : List A) (i : ℕ) → i ≡ length s → take i s ≡ s
  take-end s i e = rw (e, take_all)

-- A list of so many elements, laid over the front of another.
module _ {A : Type 0} (s t : List A) (n : ℕ) (many : length s ≡ n) where
  pub laid-front : take n (s ++ drop n t) ≡ s
  laid-front = ap (λ k. take k (s ++ drop n t)) (sym many) ∙ take-append_seam s (drop n t)

  pub laid-past : (i : ℕ) (d : A) → get_or (s ++ drop n t) (n + i) d ≡ get_or t (n + i) d
  laid-past i d =
      ap (λ k. get_or (s ++ drop n t) (k + i) d) (sym many) ∙ get_or-append-add s (drop n t) i d ∙ get_or-drop n t i d

  pub laid-long : n ≤ length t → length (s ++ drop n t) ≡ length t
  laid-long h = length-append s (drop n t) ∙ (let d = length-drop n t in omega arith)

-- A list that a loop maps in place, from the front.
module _ {A : Type 0} (f : A → A) where
  abbrev front : ℕ → List A → List A
  front k l = map f (take k l) ++ drop k l

  front-next : (l : List A) (k : ℕ) (d : A) → get_or (front k l) k d ≡ get_or l k d
  front-next [] zero d = refl
  front-next [] (suc k) d = refl
  front-next (a ∷ l) zero d = refl
  front-next (a ∷ l) (suc k) d = front-next l k d

  front-suc : (l : List A) (k : ℕ) (d : A) → k < length l → set (front k l) k (f (get_or l k d)) ≡ front (suc k) l
  front-suc [] k d h = absurd (omega arith)
  front-suc (a ∷ l) zero d h = refl
  front-suc (a ∷ l) (suc k) d h = ap (λ (m : List A). f a ∷ m) (front-suc l k d (le_of_suc-le-suc h))

  front-all : (l : List A) (k : ℕ) → length l ≤ k → front k l ≡ map f l
  front-all [] zero h = refl
  front-all [] (suc k) h = refl
  front-all (a ∷ l) zero h = absurd (omega arith)
  front-all (a ∷ l) (suc k) h = ap (λ (m : List A). f a ∷ m) (front-all l k (le_of_suc-le-suc h))

-- A list that a loop fills by a function, from the front.
module _ {A : Type 0} (f : ℕ → A) (d : A) (l : List A) where
  pub table-next : (k : ℕ) → get_or (table k f ++ drop k l) k d ≡ get_or l k d
  table-next k = ap (λ i. get_or (table k f ++ drop k l) i d)
      (let z : k ≡ k + 0 = omega arith in rw (table-length k f) z)
      ∙ get_or-append-add (table k f) (drop k l) 0 d ∙ get_or-drop k l 0 d
      ∙ ap (λ i. get_or l i d) (let z : k + 0 ≡ k = omega arith in z)

  pub set-table : (k : ℕ) → k < length l → set (table k f ++ drop k l) k (f k) ≡ table (k + 1) f ++ drop (k + 1) l
  set-table k h = rw (add-one, drop-cons l k d h)
      (set_at (table k f) (get_or l k d) (drop (suc k) l) (f k) k (table-length k f)
      ∙ sym (ap (λ t. t ++ drop (suc k) l) (table-last k f) ∙ append_assoc (table k f) (f k ∷ []) (drop (suc k) l)))

-- An array that a loop fills by a function, from the front.
module _ {A : Type 0} (size : ℕ) (rest : A) (f : ℕ → A) where
  pub filled-start : replicate size rest ≡ filled size rest 0 f
  unfolding filled table_from
  filled-start = refl

  pub filled_more : {l : List A} {a : A} (k : ℕ) → k < size → l ≡ filled size rest k f → a ≡ f k →
      set l k a ≡ filled size rest (k + 1) f
  unfolding filled
  filled_more k h e q =
      ap₂ (λ m b. set m k b) e q ∙ set-table f rest (replicate size rest) k (rw (length-replicate size rest) h)

  pub filled-all : filled size rest size f ≡ table size f
  unfolding filled
  filled-all = ap (λ l. table size f ++ l) (drop_all size) ∙ append-nil (table size f)
    where
      drop_all : (n : ℕ) → drop n (replicate n rest) ≡ []
      drop_all zero = refl
      drop_all (suc n) = drop_all n

  pub filled-same : (k : ℕ) (g : ℕ → A) → ((i : ℕ) → i < k → f i ≡ g i) → filled size rest k f ≡ filled size rest k g
  unfolding filled
  filled-same k g h = ap (λ l. l ++ drop k (replicate size rest)) (table_same k f g h)

  pub filled-rest : (k : ℕ) → drop k (filled size rest k f) ≡ drop k (replicate size rest)
  unfolding filled
  filled-rest k = drop_at (table k f) (drop k (replicate size rest)) k (table-length k f)
