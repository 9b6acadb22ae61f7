-- Bytes and words are two writings of one thing.
--   signed-unsigned, unsigned_signed   a word of 32 bits, signed and as a number
--   join-split, split-join             four bytes and their number
--   words-length, bytes-length         how many words, how many bytes
--   words_back   words that fit 32 bits, written as bytes and read again
--   bytes_back   bytes, as many as whole words have, read as words and written again
--   bytes-then, bytes_one       words one behind the other as bytes; one word
--   word-from, words-behind     word i of bytes; the words behind some of them
use mathlib.Core.Path.{◌≡◌, refl, sym, ◌∙◌, ap, ap₂}
use mathlib.Core.List.{List, [], ◌∷◌, ◌++◌}
use Prim.Native.Nat.{ℕ, zero, suc, ◌+◌, ◌-◌, ◌*◌, ◌/◌, ◌%◌, ◌^◌, ◌≤◌, ◌<◌}
use native.Mathlib.Omega.{arith}
use native.Mathlib.Decide.{dec_lt}
use native.Mathlib.Nat.{add-zero, div-one, mod-eq_of_lt, div-div-eq-div-mul}
use borrow.Author.Tests.{lt-ltb, le-ltb}
use lib.IntN.{ℤ, pos, negsuc}
use lib.ListN.{drop, length, length-append, length-drop, get_or-append}
use lib.Seq.{ext_get_or, get_or-append-add, get_or-drop}
use mir.Syntax.{w32}
use mir.Val.{SFits}
use Rattle.whole.specs.Tables.{table, table_from}
use Rattle.whole.proofs.Lists.Tables.{table_at, table-length, table_same, table-all}
use Rattle.rules.specs.Problem.{word}
use Rattle.rules.specs.Program.Bytes.{byte, joined, signed, word_at, words_from, unsigned, byte_of, bytes_from}

-- ---- a word of 32 bits, signed and as a number

signed_low : (u : ℕ) → u < 2 ^ 31 → signed u ≡ pos u
unfolding signed
signed_low u h = rw (lt-ltb u (2 ^ 31) h) refl

signed_high : (u : ℕ) → 2 ^ 31 ≤ u → u < 2 ^ 32 → signed u ≡ negsuc (2 ^ 32 - suc u)
unfolding signed
signed_high u h l = rw (le-ltb u (2 ^ 31) h, lt-ltb u (2 ^ 32) l) refl

signed-unsigned : (z : ℤ) → SFits w32 z → signed (unsigned z) ≡ z
unfolding unsigned
signed-unsigned (pos n) f = signed_low n f.sfits
signed-unsigned (negsuc k) f =
    signed_high (2 ^ 32 - suc k) (omega arith) (omega arith)
    ∙ ap negsuc (let z : 2 ^ 32 - suc (2 ^ 32 - suc k) ≡ k = omega arith in z)

unsigned_signed : (u : ℕ) → u < 2 ^ 32 → unsigned (signed u) ≡ u
unfolding unsigned
unsigned_signed u h = elim (dec_lt u (2 ^ 31)) [
  | yes s ↦ ap unsigned (signed_low u s)
  | no s ↦ ap unsigned (signed_high u (omega arith) h) ∙ (let z : 2 ^ 32 - suc (2 ^ 32 - suc u) ≡ u = omega arith in z)
]

unsigned_small : (z : ℤ) → SFits w32 z → unsigned z < 2 ^ 32
unfolding unsigned
unsigned_small (pos n) f = omega arith
unsigned_small (negsuc k) f = omega arith

-- ---- four bytes and their number

join-split : (u : ℕ) → u < 2 ^ 32 → joined (byte_of u 0) (byte_of u 1) (byte_of u 2) (byte_of u 3) ≡ u
join-split u h =
    let second : u / 65536 ≡ u / 256 / 256 = sym (div-div-eq-div-mul u 256 256) in
    let third : u / 16777216 ≡ u / 65536 / 256 = sym (div-div-eq-div-mul u 65536 256) in
    let top : u / 16777216 % 256 ≡ u / 16777216 = mod-eq_of_lt (omega arith) in
    rw div-one (omega arith)

split-join : (f : ℕ → ℕ) → ((i : ℕ) → f i < 256) → (j : ℕ) → j < 4 → byte_of (joined (f 0) (f 1) (f 2) (f 3)) j ≡ f j
split-join f h zero l = omega (arith, h 0, h 1, h 2, h 3)
split-join f h (suc zero) l = omega (arith, h 0, h 1, h 2, h 3)
split-join f h (suc (suc zero)) l = omega (arith, h 0, h 1, h 2, h 3)
split-join f h (suc (suc (suc zero))) l = omega (arith, h 0, h 1, h 2, h 3)
split-join f h (suc (suc (suc (suc j)))) l = absurd (omega arith)

-- ---- lists of them

pub words-length : (bs : List ℕ) → length (words_from bs) ≡ length bs / 4
unfolding words_from
words-length bs = table-length (length bs / 4) (λ i. word_at bs (4 * i))

pub bytes-length : (ws : List ℤ) → length (bytes_from ws) ≡ 4 * length ws
unfolding bytes_from
bytes-length ws = table-length (4 * length ws) (λ i. byte_of (unsigned (word ws (i / 4))) (i % 4))

module _ (ws : List ℤ) where
  abbrev written : ℕ → ℕ
  written i = byte_of (unsigned (word ws (i / 4))) (i % 4)

  byte-written :
      (i j : ℕ) → i < length ws → j < 4 → byte (bytes_from ws) (4 * i + j) ≡ byte_of (unsigned (word ws i)) j
  unfolding bytes_from
  byte-written i j h l =
      table_at (4 * length ws) written 0 (4 * i + j) (omega arith)
      ∙ ap₂ (λ q r. byte_of (unsigned (word ws q)) r)
      (let z : (4 * i + j) / 4 ≡ i = omega arith in z) (let z : (4 * i + j) % 4 ≡ j = omega arith in z)

  word-written :
      ((i : ℕ) → SFits w32 (word ws i)) → (i : ℕ) → i < length ws → word_at (bytes_from ws) (4 * i) ≡ word ws i
  unfolding word_at
  word-written fit i h =
      let first : byte (bytes_from ws) (4 * i) ≡ byte_of (unsigned (word ws i)) 0 =
      rw add-zero at (byte-written i 0 h (omega arith)) in
      rw (
        first,
        byte-written i 1 h (omega arith),
        byte-written i 2 h (omega arith),
        byte-written i 3 h (omega arith),
        join-split (unsigned (word ws i)) (unsigned_small (word ws i) (fit i)),
      )
      (signed-unsigned (word ws i) (fit i))

  pub words_back : ((i : ℕ) → SFits w32 (word ws i)) → words_from (bytes_from ws) ≡ ws
  unfolding words_from
  words_back fit =
      ap (λ k. table k (λ i. word_at (bytes_from ws) (4 * i)))
      (let z : length (bytes_from ws) / 4 ≡ length ws = omega (arith, bytes-length ws) in z)
      ∙ table_same (length ws) (λ i. word_at (bytes_from ws) (4 * i)) (word ws) (word-written fit)
      ∙ table-all ws (pos 0)

module _ (bs : List ℕ) (whole : length bs % 4 ≡ 0) (small : (i : ℕ) → byte bs i < 256) where
  byte-read : (q j : ℕ) → j < 4 → byte_of (unsigned (word_at bs (4 * q))) j ≡ byte bs (4 * q + j)
  unfolding word_at
  byte-read q j l =
      rw (unsigned_signed (joined (byte bs (4 * q)) (byte bs (4 * q + 1)) (byte bs (4 * q + 2)) (byte bs (4 * q + 3)))
      (omega (arith, small (4 * q), small (4 * q + 1), small (4 * q + 2), small (4 * q + 3))))
      (rw add-zero at (split-join (λ j. byte bs (4 * q + j)) (λ j. small (4 * q + j)) j l))

  word_read : (i : ℕ) → i < length bs → word (words_from bs) (i / 4) ≡ word_at bs (4 * (i / 4))
  unfolding words_from
  word_read i h = table_at (length bs / 4) (λ i. word_at bs (4 * i)) (pos 0) (i / 4) (omega arith)

  byte-back : (i : ℕ) → i < length bs → written (words_from bs) i ≡ byte bs i
  byte-back i h =
      ap (λ z. byte_of (unsigned z) (i % 4)) (word_read i h)
      ∙ byte-read (i / 4) (i % 4) (omega arith)
      ∙ ap (byte bs) (let z : 4 * (i / 4) + i % 4 ≡ i = omega arith in z)

  pub bytes_back : bytes_from (words_from bs) ≡ bs
  unfolding bytes_from
  bytes_back =
      ap (λ k. table k (written (words_from bs)))
      (let z : 4 * length (words_from bs) ≡ length bs = omega (arith, words-length bs) in z)
      ∙ table_same (length bs) (written (words_from bs)) (byte bs) byte-back
      ∙ table-all bs 0

-- ---- parts of them

byte-is : (ws : List ℤ) (i : ℕ) → i < 4 * length ws → byte (bytes_from ws) i ≡ written ws i
unfolding bytes_from
byte-is ws i h = table_at (4 * length ws) (written ws) 0 i h

pub bytes-then : (a b : List ℤ) → bytes_from (a ++ b) ≡ bytes_from a ++ bytes_from b
bytes-then a b = ext_get_or 0 (bytes_from (a ++ b)) (bytes_from a ++ bytes_from b) as_long same
  where
    both : length (bytes_from (a ++ b)) ≡ 4 * length a + 4 * length b
    both = omega (arith, bytes-length (a ++ b), length-append a b)

    as_long : length (bytes_from (a ++ b)) ≡ length (bytes_from a ++ bytes_from b)
    as_long = omega (arith, both, length-append (bytes_from a) (bytes_from b), bytes-length a, bytes-length b)

    whole : (i : ℕ) → i < length (bytes_from (a ++ b)) → byte (bytes_from (a ++ b)) i ≡ written (a ++ b) i
    whole i h = byte-is (a ++ b) i (omega (arith, both, length-append a b))

    front : (i : ℕ) → i < length (bytes_from (a ++ b)) → i < 4 * length a →
        byte (bytes_from (a ++ b)) i ≡ byte (bytes_from a ++ bytes_from b) i
    front i h l =
        whole i h
        ∙ ap (λ z. byte_of (unsigned z) (i % 4)) (get_or-append a b (pos 0) (i / 4) (omega arith))
        ∙ sym (byte-is a i l)
        ∙ sym (get_or-append (bytes_from a) (bytes_from b) 0 i (omega (arith, bytes-length a)))

    back : (i : ℕ) → i < length (bytes_from (a ++ b)) → 4 * length a ≤ i →
        byte (bytes_from (a ++ b)) i ≡ byte (bytes_from a ++ bytes_from b) i
    back i h l =
        let j = i - 4 * length a in
        whole i h
        ∙ ap₂ (λ q r. byte_of (unsigned (word (a ++ b) q)) r)
        (let z : i / 4 ≡ length a + j / 4 = omega arith in z) (let z : i % 4 ≡ j % 4 = omega arith in z)
        ∙ ap (λ z. byte_of (unsigned z) (j % 4)) (get_or-append-add a b (j / 4) (pos 0))
        ∙ sym (byte-is b j (omega (arith, both)))
        ∙ sym (get_or-append-add (bytes_from a) (bytes_from b) j 0)
        ∙ ap (byte (bytes_from a ++ bytes_from b))
        (let z : length (bytes_from a) + j ≡ i = omega (arith, bytes-length a) in z)

    same : (i : ℕ) → i < length (bytes_from (a ++ b)) → byte (bytes_from (a ++ b)) i ≡ byte
        (bytes_from a ++ bytes_from b) i
    same i h = elim (dec_lt i (4 * length a)) [ yes l ↦ front i h l | no l ↦ back i h (omega arith) ]

pub bytes_one : (z : ℤ) → bytes_from (z ∷ [])
    ≡ byte_of (unsigned z) 0 ∷ byte_of (unsigned z) 1 ∷ byte_of (unsigned z) 2 ∷ byte_of (unsigned z) 3 ∷ []
unfolding bytes_from table_from
bytes_one z = refl

pub word-from : (bs : List ℕ) (i : ℕ) → i < length bs / 4 → word (words_from bs) i ≡ word_at bs (4 * i)
unfolding words_from
word-from bs i h = table_at (length bs / 4) (λ i. word_at bs (4 * i)) (pos 0) i h

pub words-behind : (bs : List ℕ) (j : ℕ) → words_from (drop (4 * j) bs) ≡ drop j (words_from bs)
unfolding word_at
words-behind bs j = ext_get_or (pos 0) (words_from rest) (drop j (words_from bs)) as_long same
  where
    rest : List ℕ
    rest = drop (4 * j) bs

    as_long : length (words_from rest) ≡ length (drop j (words_from bs))
    as_long = omega (arith, words-length rest, length-drop (4 * j) bs, length-drop j (words_from bs), words-length bs)

    at : (i t : ℕ) → byte rest (4 * i + t) ≡ byte bs (4 * (j + i) + t)
    at i t = get_or-drop (4 * j) bs (4 * i + t) 0
        ∙ ap (byte bs) (let z : 4 * j + (4 * i + t) ≡ 4 * (j + i) + t = omega arith in z)

    at_first : (i : ℕ) → byte rest (4 * i) ≡ byte bs (4 * (j + i))
    at_first i = get_or-drop (4 * j) bs (4 * i) 0 ∙ ap (byte bs)
        (let z : 4 * j + 4 * i ≡ 4 * (j + i) = omega arith in z)

    same : (i : ℕ) → i < length (words_from rest) → word (words_from rest) i ≡ word (drop j (words_from bs)) i
    same i h =
        word-from rest i (omega (arith, words-length rest))
        ∙ rw (at_first i, at i 1, at i 2, at i 3) refl
        ∙ sym (word-from bs (j + i) (omega (arith, words-length rest, length-drop (4 * j) bs)))
        ∙ sym (get_or-drop j (words_from bs) i (pos 0))
