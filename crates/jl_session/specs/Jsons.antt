-- Lines and answers in JSON.
use Rattle.std.specs.Prelude.{◌≡◌, ◌++◌, ℕ, List, codes, Option, Some, None, option_and_then, IsUtf8}
use Rattle.serde_json.specs.Data.{Data, string, object, no_members, member}
use Rattle.serde_json.specs.Read.{read}
use Rattle.serde_json.specs.Written.{compact_text}

-- what the line's JSON is read as; or it is no JSON, or is read as nothing
abbrev pub IsReadAs : {X : Type 0} → (Data → Option X) → List ℕ → Option X → Type 0
IsReadAs meaning line (Some x) = IsUtf8 line × (option_and_then meaning (read line) ≡ Some x)
IsReadAs meaning line None = IsUtf8 line → option_and_then meaning (read line) ≡ None

-- the text is that of such an answer
abbrev pub IsTextOf : (Data → Type 0) → List ℕ → Type 0
IsTextOf IsSaid text = (answer : Data) × IsSaid answer × (text ≡ compact_text answer)

-- the text of such an answer is added
abbrev pub AddsTextOf : (Data → Type 0) → List ℕ → List ℕ → Type 0
AddsTextOf IsSaid old new = (text : List ℕ) × IsTextOf IsSaid text × (new ≡ old ++ text)

-- the answer to a line that is none of the stated forms
abbrev pub bad_command : Data
bad_command = object (member (codes "error") (string (codes "BadCommand")) no_members)
