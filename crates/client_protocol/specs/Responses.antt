-- The bytes of a response's frame.
use Rattle.std.specs.Prelude.{ℕ, List, [], ◌∷◌, flat_map, Bool, true, false, None}
use Rattle.bpf_model.specs.declared.input.InputPart.{InputPart}
use Rattle.bpf_model.specs.declared.input.InputPart.TheVariants as part
use Rattle.client_protocol.specs.declared.response.Response.{Response}
use Rattle.client_protocol.specs.declared.response.Response.TheVariants.{Hello, Registered, Value, Done, Unfit, Refused, Item, End}
use Rattle.client_protocol.specs.declared.response.ShortResponse.{ShortResponse}
use Rattle.client_protocol.specs.declared.response.ShortResponse.TheVariants as short
use Rattle.client_protocol.specs.Bodies.{Field, fields_bytes, version_number}
use Rattle.client_protocol.specs.Bodies.Field.{byte, word, long, key, value, opt}
use Rattle.client_protocol.specs.Frames.{framed}

-- 0 or 1
abbrev pub flag : Bool → ℕ
flag false = 0
flag true = 1

-- the number with which a window is sent
abbrev pub part_number : InputPart → ℕ
part_number part.Key = 1
part_number part.Old = 2
part_number part.Arg = 3

-- a response's tag, and its fields after it
abbrev pub response_tag : Response → ℕ
response_tag (Hello version) = 128
response_tag (Registered program) = 129
response_tag (Value answer) = 130
response_tag (Done done) = 131
response_tag (Unfit part) = 132
response_tag (Refused number place) = 133
response_tag (Item k v) = 134
response_tag (End scanned given unfit) = 135

abbrev pub response_fields : Response → List Field
response_fields (Hello version) = byte (version_number version) ∷ []
response_fields (Registered program) = long program ∷ []
response_fields (Value answer) = opt answer ∷ []
response_fields (Done done) = byte (flag done) ∷ []
response_fields (Unfit part) = byte (part_number part) ∷ []
response_fields (Refused number place) = byte number ∷ word place ∷ []
response_fields (Item k v) = key k ∷ value v ∷ []
response_fields (End scanned given unfit) = long scanned ∷ long given ∷ long unfit ∷ []

abbrev pub response_body : Response → List ℕ
response_body response = response_tag response ∷ fields_bytes (response_fields response)

abbrev pub response_frame : Response → List ℕ
response_frame response = framed (response_body response)

abbrev pub response_frames : List Response → List ℕ
response_frames responses = flat_map response_frame responses

-- the response that a short one stands for
abbrev pub response_of : ShortResponse → Response
response_of (short.Hello version) = Hello version
response_of (short.Registered program) = Registered program
response_of short.Nothing = Value None
response_of (short.Done done) = Done done
response_of (short.Unfit part) = Unfit part
response_of (short.Refused number place) = Refused number place
response_of (short.End scanned given unfit) = End scanned given unfit
