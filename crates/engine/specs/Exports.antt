-- The contracts of the functions that C and Rust link. They give the same answers as one number: the reply + 256 times the place.
use Rattle.std.specs.Prelude.{ℕ, ◌+◌, ◌*◌, true, false, cond, ◌≡◌, eqb}
use Rattle.paper_lower.specs.Records.{Bytes}
use Rattle.paper_upper.specs.Orders.{SameTables}
use Rattle.paper_upper.specs.Questions.{answer_words}
use Rattle.policy.specs.Layout.{policy_words}
use Rattle.sessions.specs.Reading.{sessions_words}
use Rattle.order_links.specs.Chains.{orders_words, sound_of}
use Rattle.lower.specs.Exports.{inside_one}
use Rattle.engine.specs.Buffers.{Buffers, tables_of, fit, SameLengths}
use Rattle.engine.specs.Answers.{request_answer, load_answer, Zeros}

-- The contract of `mishantral_load`: that of `load`, with reply and place in one number.
pub record LoadExported (bytes : Bytes) (x x' : Buffers) (number : ℕ) : Type 0 where
  pub answers : number ≡ inside_one (load_answer bytes x).reply (load_answer bytes x).place
  pub tables : tables_of x' ≡ (load_answer bytes x).tables
  pub lengths : SameLengths x x'
  pub room : fit x ≡ false → x' ≡ x
  pub zeros : fit x ≡ true → ((load_answer bytes x).reply ≡ 0 → ⊥) → Zeros x'
  pub settles : fit x ≡ true → sound_of x'.orders ≡ true

-- The contract of `mishantral_request`: that of `request`, with reply and place in one number.
pub record RequestExported (bytes : Bytes) (x x' : Buffers) (number : ℕ) : Type 0 where
  pub answers : number ≡ (request_answer bytes x).reply + 256 * (request_answer bytes x).place
  pub tables : SameTables (tables_of x') (request_answer bytes x).tables
  pub lengths : SameLengths x x'
  pub kept : ((request_answer bytes x).reply ≡ 0 → ⊥) → x' ≡ x
  pub settles : (request_answer bytes x).reply ≡ 0 → sound_of x'.orders ≡ true

-- The length of the scratch buffer for reading OPL/XML: seven tables of names, each with one word for its count and three words for each name that it can
-- hold; two words for each of 131,072 records; and the list of tags, with one word for its count and one for each of 262,144 tags.
abbrev pub reader_words : ℕ
reader_words = 7 + 3 * (1024 + 64 + 256 + 65536 + 65536 + 64 + 16) + 2 * 131072 + (1 + 262144)

-- The length of a buffer in words, by number: 0 policy, 1 sessions, 2 orders, 3 a question's answer, 4 the scratch buffer for reading OPL/XML.
abbrev pub words_of : ℕ → ℕ
words_of group =
    cond (eqb group 0) policy_words
    (cond (eqb group 1) sessions_words (cond (eqb group 2) orders_words (cond (eqb group 3) answer_words (cond (eqb group 4) reader_words 0))))
