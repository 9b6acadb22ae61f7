-- docs/RULES.md, "The program": bytes as 32-bit signed words, little-endian, and back; and the byte count, which is
-- judged first. A byte is a number below 256.
use Rattle.std.specs.Prelude.{cond, not, ◌||◌, List, [], ◌∷◌, ◌≢◌, ◌⊎◌, ◌≡◌, ℕ, suc, ◌+◌, ◌-◌, ◌*◌, ◌/◌, ◌%◌, ◌^◌, ◌<◌}
use Rattle.std.specs.Prelude.{◌≤◌, ℤ, pos, negsuc, ◌-ℤ◌, length, get_or, ltb, eqb}
use Rattle.whole.specs.Tables.{table}
use Rattle.rules.specs.Facts.Refusal.{Line, line_of}
use Rattle.rules.specs.Sizes.{most_bytes}
use Rattle.rules.specs.Problem.{word}
use Rattle.rules.specs.Refusal.{first}

-- ---- from bytes to words

-- byte i; a byte that is not there is 0
abbrev pub byte : List ℕ → ℕ → ℕ
byte bs i = get_or bs i 0

-- four bytes as one number, the lowest first
abbrev pub joined : ℕ → ℕ → ℕ → ℕ → ℕ
joined a b c d = a + 256 * b + 65536 * c + 16777216 * d

-- a number of 32 bits as a signed word: from 2 ^ 31 on it is 2 ^ 32 less
unfoldable pub signed : ℕ → ℤ
signed u = cond (ltb u (2 ^ 31)) (pos u) (pos u -ℤ pos (2 ^ 32))

-- the word whose four bytes start at a place
unfoldable pub word_at : List ℕ → ℕ → ℤ
word_at bs i = signed (joined (byte bs i) (byte bs (i + 1)) (byte bs (i + 2)) (byte bs (i + 3)))

-- word after word; up to three bytes left over are no word
unfoldable pub words_from : List ℕ → List ℤ
words_from bs = table (length bs / 4) (λ i. word_at bs (4 * i))

-- ---- from words to bytes

-- a signed word's 32 bits as a number: below 0 it is 2 ^ 32 more
unfoldable pub unsigned : ℤ → ℕ
unsigned (pos n) = n
unsigned (negsuc k) = 2 ^ 32 - suc k

-- byte j of a number, the lowest first
abbrev pub byte_of : ℕ → ℕ → ℕ
byte_of u j = u / 256 ^ j % 256

-- four bytes for each word
unfoldable pub bytes_from : List ℤ → List ℕ
bytes_from ws = table (4 * length ws) (λ i. byte_of (unsigned (word ws (i / 4))) (i % 4))

-- ---- the byte count: the refusal's number, or 0; and the same in plain words (specs/Facts/Refusal)

unfoldable pub count_refusal : ℕ → ℕ
count_refusal count = first ((ltb count 8, 1) ∷ (not (eqb (count % 4) 0) || ltb most_bytes count, 3) ∷ [])

-- under 8; not a multiple of four, or over the most
abbrev pub count_table : ℕ → List Line
count_table n = line_of 1 (n < 8) (8 ≤ n) ∷ line_of 3 ((n % 4 ≢ 0) ⊎ (most_bytes < n))
    ((n % 4 ≡ 0) × (n ≤ most_bytes)) ∷ []
