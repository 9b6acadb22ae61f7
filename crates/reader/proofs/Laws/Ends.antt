-- The array before the first row, and behind the last limit.
--   words-start                sizes are set, and all other words are 0
--   sizes-few                  how many words there can be
--   whole-at                   the whole problem is read
--   more-refused               something follows
--   refused-answer             the answer, and the slice afterwards, where the reading was halted
--   short-answer, fit-answer   .. all is read, and the slice is too short or not
--   taken-length                the slice keeps its length
use mathlib.Core.Bool.{true, false}
use mathlib.Core.List.{List, [], ◌∷◌, ◌++◌}
use mathlib.Core.Path.{◌≡◌, refl, sym, ◌∙◌, ap}
use Prim.Native.Nat.{ℕ, ◌+◌, ◌*◌, ◌≤◌, ◌<◌}
use native.Mathlib.Decide.{dec_lt}
use native.Mathlib.Nat.{mul-le-mul}
use native.Mathlib.Omega.{arith}
use borrow.Author.Tests.{le-ltb, lt-ltb}
use lib.Dec.{ltb}
use lib.IntN.{ℤ, pos}
use lib.ListN.{drop, length, length-append, length-drop, replicate, set, take}
use Rattle.rules.specs.Sizes.{most_cells, most_words}
use Rattle.rules.specs.Exchange.Reader.{ReaderState, decided, ended, finish, on, pieces, pieces_words, read_text}
use Rattle.rules.specs.Exchange.Reader.{TextOutcome, refused_at, token_step, words}
use Rattle.tokens.specs.Followed.{Followed}
use Rattle.std.specs.Prelude.{Ok}
use Rattle.tokens.specs.declared.Halted.{Halted}
use Rattle.tokens.specs.Placed.{ended_at, read_behind, read_from}
use Rattle.tokens.proofs.Laws.Placed.{from_end, from-refused}
use Rattle.reader.specs.Course.{EndedAt, FewSizes, Refused, WholeAt, pushed}
use Rattle.reader.specs.Taken.{fitting_by, kept_by, taken_by, taken_output}
use Rattle.reader.proofs.Laws.Pushed.{push-more, push-start, push-take}
use Rattle.reader.proofs.Laws.Puts.{pieces-length}

pub words-start : (ws : List ℤ) (n m : ℕ) (y z : ℤ) → ws ≡ replicate most_words (pos 0) → y ≡ pos n → z ≡ pos m →
    set (set ws 0 y) 1 z ≡ pushed (pos n ∷ pos m ∷ [])
words-start ws n m y z e f g =
    ap (λ l. set (set l 0 y) 1 z) (e ∙ push-start)
    ∙ ap (λ l. set l 1 z) (push-more [] y 0 refl (omega arith))
    ∙ push-more (y ∷ []) z 1 refl (omega arith)
    ∙ ap (λ x. pushed (x ∷ z ∷ [])) f ∙ ap (λ x. pushed (pos n ∷ x ∷ [])) g

pub sizes-few : (n m : ℕ) → FewSizes n m → m * n ≤ most_cells
sizes-few n m f = mul-le-mul f.m-most f.n-most

module _ {t : List ℕ} {n m : ℕ} {ws : List ℤ} {so : Followed} (e : EndedAt t n m ws so) where
  size : length (pieces_words (pieces n m e.held.rows e.held.limits)) ≡ 2 + m * n + 3 * (n + m)
  size = pieces-length (pieces n m e.held.rows e.held.limits) e.held.flat

  room : 2 + m * n + 3 * (n + m) ≤ most_words
  room = let f = e.held.few in omega (arith, sizes-few n m f, f.n-most, f.m-most)

  abbrev final : ReaderState
  final = on [] (ended (pieces n m e.held.rows e.held.limits))

  module _ (at : ℕ) (q : so ≡ Ok at) where
    -- nothing may follow
    pub more-refused : at < length t → Refused t (record { place = at })
    unfolding read_behind token_step decided
    more-refused h =
        e.on-course.reads ∙ ap (read_behind t final) q
        ∙ from-refused t final at h (e.on-course.stands.starts at q) refl

    pub whole-at : length t ≤ at → (k : ℕ) → k ≡ 2 + m * n + 3 * (n + m) → WholeAt t ws k
    unfolding read_behind ended_at finish
    whole-at h k y = record {
      own = pieces_words (pieces n m e.held.rows e.held.limits);
      size = size ∙ sym y;
      room = omega (arith, room);
      front = e.held.words;
      reads =
          let z : at ≡ length t = omega (arith, e.on-course.stands.inside at q) in
          e.on-course.reads ∙ ap (read_behind t final) q ∙ ap (read_from t final) z ∙ from_end t final;
    }

-- ---- what is told

-- the slice keeps its length
pub taken-length : (o : TextOutcome) (before : List ℤ) → length (taken_output o before) ≡ length before
unfolding taken_output kept_by
taken-length (refused_at p) before = refl
taken-length (words ws) before = go (dec_lt (length before) (length ws))
  where
    go : Dec (length before < length ws) →
        length (kept_by ws (ltb (length before) (length ws)) before) ≡ length before
    go (yes l) = ap (λ b. length (kept_by ws b before)) (lt-ltb (length before) (length ws) l)
    go (no n) =
        ap (λ b. length (kept_by ws b before)) (le-ltb (length before) (length ws) (omega arith))
        ∙ length-append ws (drop (length ws) before)
        ∙ ap (λ k. length ws + k) (length-drop (length ws) before) ∙ (omega arith)

pub refused-answer : (t : List ℕ) (e : Halted) → Refused t e → (out : List ℤ) →
    (record { refused = 60; count = e.place } ≡ taken_by (read_text t) (length out))
    × (out ≡ taken_output (read_text t) out)
unfolding taken_by taken_output
refused-answer t e r out = (sym (ap (λ o. taken_by o (length out)) r), sym (ap (λ o. taken_output o out) r))

module _ {t : List ℕ} {ws : List ℤ} {count : ℕ} (w : WholeAt t ws count) where
  pub short-answer : (out : List ℤ) → length out < count →
      (record { refused = 7; count = 0 } ≡ taken_by (read_text t) (length out))
      × (out ≡ taken_output (read_text t) out)
  unfolding taken_by taken_output fitting_by kept_by
  short-answer out l =
      let few : ltb (length out) (length w.own) ≡ true = lt-ltb (length out) (length w.own) (omega (arith, w.size)) in (
        sym (ap (λ o. taken_by o (length out)) w.reads ∙ ap (fitting_by w.own) few),
        sym (ap (λ o. taken_output o out) w.reads ∙ ap (λ b. kept_by w.own b out) few),
      )

  pub fit-answer : (out after : List ℤ) → count ≤ length out → after ≡ take count ws ++ drop count out →
      (record { refused = 0; count = count } ≡ taken_by (read_text t) (length out))
      × (after ≡ taken_output (read_text t) out)
  unfolding taken_by taken_output fitting_by kept_by
  fit-answer out after l q =
      let room : ltb (length out) (length w.own) ≡ false =
      le-ltb (length out) (length w.own) (omega (arith, w.size)) in (
        ap (λ (k : ℕ). record { refused = 0; count = k }) (sym w.size)
            ∙ sym (ap (λ o. taken_by o (length out)) w.reads ∙ ap (fitting_by w.own) room),
        q
            ∙ ap (λ k. take k ws ++ drop k out) (sym w.size)
            ∙ ap (λ l. take (length w.own) l ++ drop (length w.own) out) w.front
            ∙ ap (λ l. l ++ drop (length w.own) out) (push-take w.own)
            ∙ sym (ap (λ o. taken_output o out) w.reads ∙ ap (λ b. kept_by w.own b out) room),
      )
