-- Worked rows, by computation.
use Rattle.std.proofs.Common.{◌≡◌, ◌++◌, [], ◌∷◌, refl, true, Some, None}
use Rattle.std.specs.Prelude.{codes}
use Rattle.std.specs.Char.Utf16.{utf16_chars}
use Rattle.std.specs.Fmt.{digits}
use lib.Utf8.{encode}
use Rattle.serde_json.proofs.OnLiterals.{serde_json_on_literals}
use Rattle.serde_json.specs.Written.{compact_text}
use Rattle.jl_code.specs.declared.code_fault.CodeFault.TheVariants as code
use Rattle.jl_classfile.specs.declared.fault.ClassFault.TheVariants.{Code}
use Rattle.jl_classfile.specs.Shown.{shown}
use Rattle.jl_classfile.proofs.Rows.Object as object
use Rattle.jl_sketch.specs.declared.sketch.Call.TheVariants.{Static}
use Rattle.jl_sketch.specs.declared.sketch.Sketch.{Sketch}
use Rattle.jl_types.specs.declared.answer.Answer.TheVariants.{Unlinked}
use Rattle.jl_types.specs.declared.answer.Missing.TheVariants.{CallerHost}
use Rattle.jl_types.specs.declared.answer.Outcome.TheVariants.{Run}
use Rattle.jl_types.specs.declared.answer.Throwable.TheVariants.{NoSuchMethodError}
use Rattle.jl_types.specs.declared.answer.Unlinked.TheVariants.{NotReady}
use Rattle.jl_types.specs.declared.event.Made.TheVariants.{Class}
use Rattle.jl_types.specs.declared.ids.MethodId.{MethodId}
use Rattle.jl_types.specs.declared.link.Link.TheVariants.{Fault, Table, Mega}
use Rattle.jl_types.specs.declared.link.TableKind.TheVariants.{Virtual}
use Rattle.jl_types.specs.declared.refusal.DefineFault.TheVariants.{MissingParent}
use Rattle.jl_types.specs.declared.refusal.Refusal.TheVariants.{Define, Stale}
use Rattle.jl_json.specs.CallAnswers.{answer_data}
use Rattle.jl_json.specs.ClassAnswers.{class_data}
use Rattle.jl_json.specs.EventRefusals.{define_refusal_data, event_refusal_data}
use Rattle.jl_json.specs.LinkAnswers.{table_row_data, link_data, site_link_data, site_links_data}
use Rattle.jl_json.specs.LinkAnswers.{prepared_data}
use Rattle.jl_json.specs.ForProofs.NameReading.{name_text}
use Rattle.jl_json.specs.Refusals.{refusal_of, refusal_data}
use Rattle.jl_json.specs.Replies.{reply_data}
use Rattle.jl_json.specs.SketchForms.{sketch_data}

refused_code : compact_text (refusal_data (Code 0 (code.CutShort 1)))
    ≡ codes "{\"at\":1,\"method\":0,\"refused\":\"Code.CutShort\"}"
unfolding refusal_of digits serde_json_on_literals
refused_code = refl

refused_memory : compact_text (refusal_data (Code 3 code.Memory)) ≡ codes "{\"refused\":\"Memory\"}"
unfolding refusal_of digits serde_json_on_literals
refused_memory = refl

-- two surrogates are one character, and a lone one is U+FFFD
name_pair : name_text (0xed ∷ 0xa0 ∷ 0x80 ∷ 0xed ∷ 0xb0 ∷ 0x80 ∷ []) ≡ 0xf0 ∷ 0x90 ∷ 0x80 ∷ 0x80 ∷ []
unfolding name_text utf16_chars encode
name_pair = refl

name_lone : name_text (0x61 ∷ 0xed ∷ 0xa0 ∷ 0x80 ∷ []) ≡ 0x61 ∷ 0xef ∷ 0xbf ∷ 0xbd ∷ []
unfolding name_text utf16_chars encode
name_lone = refl

class_text : compact_text (class_data name_text (shown object.parts))
    ≡ codes "{\"class\":\"java/lang/Object\",\"methods\":[]}"
unfolding class_data name_text utf16_chars encode serde_json_on_literals
class_text = refl

abbrev first_method : MethodId
first_method = record { class = 1; index = 0 }

table_text : compact_text (event_refusal_data name_text (Stale 0 (Table Virtual ((1, Run first_method) ∷ []))))
    ≡ codes "{\"present\":{\"kind\":\"virtual\",\"table\":[[1,{\"run\":[1,0]}]]},\"refused\":\"Stale\",\"site\":0}"
unfolding event_refusal_data link_data table_row_data digits serde_json_on_literals
table_text = refl

parent_text : compact_text (event_refusal_data name_text (Define (MissingParent (codes "p/A"))))
    ≡ codes "{\"name\":\"p/A\",\"refused\":\"Define.MissingParent\"}"
unfolding event_refusal_data define_refusal_data name_text utf16_chars encode serde_json_on_literals
parent_text = refl

reply_text : compact_text (reply_data (record { made = Class 3; dropped = 0 ∷ 2 ∷ [] }))
    ≡ codes "{\"class\":3,\"dropped\":[0,2]}"
unfolding reply_data digits serde_json_on_literals
reply_text = refl

wants_text : compact_text (answer_data (Unlinked (NotReady CallerHost)))
    ≡ codes "{\"unlinked\":\"NotReady\",\"wants\":\"callerHost\"}"
unfolding answer_data serde_json_on_literals
wants_text = refl

prepared_text : compact_text (prepared_data 4 ((1, Mega) ∷ (2, Fault NoSuchMethodError) ∷ []))
    ≡ codes "{\"prepared\":4,\"rows\":[[1,{\"mega\":true}],[2,{\"fault\":\"NoSuchMethodError\"}]]}"
unfolding site_links_data site_link_data link_data digits serde_json_on_literals
prepared_text = refl

-- a static method of the class M, which calls one of the interface A
abbrev worked_sketch : Sketch
worked_sketch = record {
  name = codes "M";
  flags = 1;
  superclass = Some (codes "N");
  interfaces = [];
  methods = record {
    name = codes "m";
    ty = codes "()V";
    flags = 9;
    calls = Static true (record { owner = codes "A"; name = codes "f"; ty = codes "()V" }) ∷ [];
  } ∷ [];
  host = None;
  members = codes "B" ∷ [];
}

sketch_text : compact_text (sketch_data name_text worked_sketch)
    ≡ codes "{\"flags\":1,\"interfaces\":[],\"members\":[\"B\"],\"methods\":[{\"calls\":["
    ++ (codes "{\"itf\":true,\"kind\":\"invokestatic\",\"name\":\"f\",\"of\":\"A\",\"type\":\"()V\"}"
    ++ codes "],\"flags\":9,\"name\":\"m\",\"type\":\"()V\"}],\"name\":\"M\",\"super\":\"N\"}")
unfolding name_text utf16_chars encode digits serde_json_on_literals
sketch_text = refl
