-- Words of the command line, worked out by hand.
use Rattle.std.proofs.Common.{◌≡◌, ℕ, List, [], ◌∷◌, ◌++◌, replicate, refl, None, Some}
use Rattle.std.specs.Prelude.{codes}
use Rattle.hex.specs.Hex.{decode_pairs}
use Rattle.craft_base.specs.declared.command.Op.TheVariants as ops
use Rattle.command_words.specs.Places.{place_in}
use Rattle.command_words.specs.Words.{path_in, plan}
use Rattle.command_words.specs.declared.command.Command.TheVariants.{Replay, Node, Ask, Split, Join, Storm}

-- ---- places

-- 127.0.0.1 is 0x7f000001, which is 2,130,706,433; times 65,536 that is 139,637,976,793,088
one_place : place_in (codes "127.0.0.1:7000") ≡ Some 139637976800088
one_place = refl

-- 2^48 - 1
greatest_place : place_in (codes "255.255.255.255:65535") ≡ Some 281474976710655
greatest_place = refl

least_place : place_in (codes "0.0.0.0:1") ≡ Some 1
least_place = refl

zeros_before_octet : place_in (codes "127.00.0.1:7000") ≡ None
zeros_before_octet = refl

zeros_before_port : place_in (codes "127.0.0.1:07000") ≡ None
zeros_before_port = refl

no_port_zero : place_in (codes "127.0.0.1:0") ≡ None
no_port_zero = refl

port_too_great : place_in (codes "127.0.0.1:65536") ≡ None
port_too_great = refl

octet_too_great : place_in (codes "127.0.0.256:7000") ≡ None
octet_too_great = refl

three_octets : place_in (codes "127.0.1:7000") ≡ None
three_octets = refl

five_octets : place_in (codes "127.0.0.0.1:7000") ≡ None
five_octets = refl

no_port : place_in (codes "127.0.0.1") ≡ None
no_port = refl

empty_port : place_in (codes "127.0.0.1:") ≡ None
empty_port = refl

two_ports : place_in (codes "127.0.0.1:7000:7001") ≡ None
two_ports = refl

-- ---- replay, split and join

replay_words : plan (codes "replay" ∷ codes "1" ∷ codes "2" ∷ []) ≡ Some (Replay (record { faults = 1; need = 2 }))
replay_words = refl

split_words : plan (codes "split" ∷ codes "1" ∷ codes "2" ∷ []) ≡ Some (Split (record { faults = 1; need = 2 }))
split_words = refl

join_words : plan (codes "join" ∷ codes "7" ∷ codes "8" ∷ []) ≡ Some (Join (record { faults = 7; need = 8 }))
join_words = refl

-- a command's name stands whole, in small letters
storm_words : plan (codes "storm" ∷ codes "2" ∷ codes "3" ∷ codes "7" ∷ codes "20000" ∷ []) ≡ Some (Storm (record { shape = record { faults = 2; need = 3 }; seed = 7; count = 20000 }))
storm_words = refl

most_events : plan (codes "storm" ∷ codes "1" ∷ codes "1" ∷ codes "18446744073709551615" ∷ codes "100000" ∷ []) ≡ Some (Storm (record { shape = record { faults = 1; need = 1 }; seed = 18446744073709551615; count = 100000 }))
most_events = refl

no_events : plan (codes "storm" ∷ codes "1" ∷ codes "1" ∷ codes "0" ∷ codes "0" ∷ []) ≡ None
no_events = refl

too_many_events : plan (codes "storm" ∷ codes "1" ∷ codes "1" ∷ codes "0" ∷ codes "100001" ∷ []) ≡ None
too_many_events = refl

storm_seed_too_great : plan (codes "storm" ∷ codes "1" ∷ codes "1" ∷ codes "18446744073709551616" ∷ codes "1" ∷ []) ≡ None
storm_seed_too_great = refl

storm_without_count : plan (codes "storm" ∷ codes "1" ∷ codes "1" ∷ codes "0" ∷ []) ≡ None
storm_without_count = refl

no_such_name : plan (codes "Join" ∷ codes "7" ∷ codes "8" ∷ []) ≡ None
no_such_name = refl

-- no cluster survives eight failures, and three of two fragments are none
no_such_shape : plan (codes "replay" ∷ codes "8" ∷ codes "1" ∷ []) ≡ None
no_such_shape = refl

no_such_need : plan (codes "replay" ∷ codes "1" ∷ codes "3" ∷ []) ≡ None
no_such_need = refl

word_behind : plan (codes "split" ∷ codes "1" ∷ codes "2" ∷ codes "3" ∷ []) ≡ None
word_behind = refl

-- ---- node

abbrev two : List (List ℕ)
two = codes "127.0.0.1:7000" ∷ codes "127.0.0.1:7001" ∷ []

abbrev three : List (List ℕ)
three = two ++ codes "127.0.0.1:7002" ∷ []

abbrev three_places : List ℕ
three_places = 139637976800088 ∷ 139637976800089 ∷ 139637976800090 ∷ []

abbrev node_words : (me seed turns path : List ℕ) → List (List ℕ) → List (List ℕ)
node_words me seed turns path places = codes "node" ∷ codes "1" ∷ codes "1" ∷ me ∷ seed ∷ turns ∷ path ∷ places

node_read : plan (node_words (codes "2") (codes "18446744073709551615") (codes "1000000000000") (codes "j") three)
    ≡ Some (Node (record {
      shape = record { faults = 1; need = 1 };
      me = 2;
      seed = 18446744073709551615;
      turns = 1000000000000;
      places = three_places;
    }))
node_read = refl

path_read : path_in (node_words (codes "0") (codes "0") (codes "2") (codes "j") three) ≡ Some (codes "j")
path_read = refl

no_such_member : plan (node_words (codes "3") (codes "0") (codes "2") (codes "j") three) ≡ None
no_such_member = refl

seed_too_great : plan (node_words (codes "0") (codes "18446744073709551616") (codes "2") (codes "j") three) ≡ None
seed_too_great = refl

no_turns : plan (node_words (codes "0") (codes "0") (codes "0") (codes "j") three) ≡ None
no_turns = refl

too_many_turns : plan (node_words (codes "0") (codes "0") (codes "1000000000001") (codes "j") three) ≡ None
too_many_turns = refl

no_path : plan (node_words (codes "0") (codes "0") (codes "2") [] three) ≡ None
no_path = refl

too_few_places : plan (node_words (codes "0") (codes "0") (codes "2") (codes "j") two) ≡ None
too_few_places = refl

too_many_places : plan (node_words (codes "0") (codes "0") (codes "2") (codes "j") (three ++ two)) ≡ None
too_many_places = refl

one_bad_place : plan (node_words (codes "0") (codes "0") (codes "2") (codes "j") (two ++ codes "127.0.0.1:0" ∷ [])) ≡ None
one_bad_place = refl

-- ---- ask

abbrev ask_words : (client op key value : List ℕ) → List (List ℕ)
ask_words client op key value = codes "ask" ∷ codes "1" ∷ codes "1" ∷ client ∷ codes "1" ∷ op ∷ key ∷ value ∷ three

ask_read : plan (ask_words (codes "7") (codes "put") (codes "a") (codes "6263"))
    ≡ Some (Ask (record {
      shape = record { faults = 1; need = 1 };
      request = record { client = 7; seq = 1; op = ops.Put; key = 97 ∷ []; value = 98 ∷ 99 ∷ [] };
      places = three_places;
    }))
unfolding decode_pairs
ask_read = refl

-- a key stands as it is, also where it could be digits
key_as_text : plan (ask_words (codes "7") (codes "putif=0") (codes "61") (codes "-"))
    ≡ Some (Ask (record {
      shape = record { faults = 1; need = 1 };
      request = record { client = 7; seq = 1; op = ops.PutIf 0; key = 54 ∷ 49 ∷ []; value = [] };
      places = three_places;
    }))
key_as_text = refl

longest_key_read : plan (ask_words (codes "7") (codes "get") (replicate 255 97) (codes "-"))
    ≡ Some (Ask (record {
      shape = record { faults = 1; need = 1 };
      request = record { client = 7; seq = 1; op = ops.Get; key = replicate 255 97; value = [] };
      places = three_places;
    }))
longest_key_read = refl

no_client : plan (ask_words (codes "0") (codes "put") (codes "a") (codes "6263")) ≡ None
unfolding decode_pairs
no_client = refl

empty_key : plan (ask_words (codes "7") (codes "put") [] (codes "6263")) ≡ None
unfolding decode_pairs
empty_key = refl

key_too_long : plan (ask_words (codes "7") (codes "get") (replicate 256 97) (codes "-")) ≡ None
key_too_long = refl

upper_case : plan (ask_words (codes "7") (codes "put") (codes "a") (codes "6A")) ≡ None
upper_case = refl

odd_digits : plan (ask_words (codes "7") (codes "put") (codes "a") (codes "626")) ≡ None
unfolding decode_pairs
odd_digits = refl

no_value : plan (ask_words (codes "7") (codes "put") (codes "a") []) ≡ None
no_value = refl

del_with_value : plan (ask_words (codes "7") (codes "del") (codes "a") (codes "62")) ≡ None
unfolding decode_pairs
del_with_value = refl

get_with_value : plan (ask_words (codes "7") (codes "get") (codes "a") (codes "62")) ≡ None
unfolding decode_pairs
get_with_value = refl

putif_without_number : plan (ask_words (codes "7") (codes "putif=") (codes "a") (codes "-")) ≡ None
putif_without_number = refl

no_such_op : plan (ask_words (codes "7") (codes "noop") (codes "a") (codes "-")) ≡ None
no_such_op = refl
