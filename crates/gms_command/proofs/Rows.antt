-- What some written out arguments request, by the definition.
use Rattle.std.proofs.Common.{◌≡◌, true, false, [], ◌∷◌, Some, None, refl, codes}
use Rattle.std.specs.Fmt.{digits}
use Rattle.clap.proofs.OnLiterals.{clap_on_literals}
use Rattle.gms_command.specs.CommandLine.{in_file, restarted, generated, request_of}

-- a FILE alone, an empty one, one after `--`, and `-`
pub file : request_of (codes "a.gms" ∷ []) ≡ Some (record { source = in_file (codes "a.gms"); output = codes "a.lst"; save = None; ranges = false })
unfolding clap_on_literals
file = refl

pub empty_file : request_of ([] ∷ []) ≡ Some (record { source = in_file []; output = codes ".lst"; save = None; ranges = false })
unfolding clap_on_literals
empty_file = refl

pub after_dashes : request_of (codes "--" ∷ codes "-x" ∷ []) ≡ Some (record { source = in_file (codes "-x"); output = codes "-x.lst"; save = None; ranges = false })
unfolding clap_on_literals
after_dashes = refl

pub hyphen : request_of (codes "-" ∷ []) ≡ Some (record { source = in_file (codes "-"); output = codes "-.lst"; save = None; ranges = false })
unfolding clap_on_literals
hyphen = refl

-- the output named, also by an empty value
pub named : request_of (codes "--out" ∷ codes "b" ∷ codes "a.gms" ∷ []) ≡ Some (record { source = in_file (codes "a.gms"); output = codes "b"; save = None; ranges = false })
unfolding clap_on_literals
named = refl

pub named_empty : request_of (codes "a.gms" ∷ codes "--out=" ∷ []) ≡ Some (record { source = in_file (codes "a.gms"); output = []; save = None; ranges = false })
unfolding clap_on_literals
named_empty = refl

-- a number to generate
pub one : request_of (codes "--generate" ∷ codes "1" ∷ []) ≡ Some (record { source = generated 1; output = codes "generate.lst"; save = None; ranges = false })
unfolding clap_on_literals digits
one = refl

pub thirty : request_of (codes "--generate=30" ∷ codes "--out" ∷ codes "b" ∷ []) ≡ Some (record { source = generated 30; output = codes "b"; save = None; ranges = false })
unfolding clap_on_literals digits
thirty = refl

-- requested ranges, in any place
pub with_ranges : request_of (codes "--ranges" ∷ codes "a.gms" ∷ []) ≡ Some (record { source = in_file (codes "a.gms"); output = codes "a.lst"; save = None; ranges = true })
unfolding clap_on_literals
with_ranges = refl

pub ranges_last : request_of (codes "--generate" ∷ codes "1" ∷ codes "--ranges" ∷ []) ≡ Some (record { source = generated 1; output = codes "generate.lst"; save = None; ranges = true })
unfolding clap_on_literals digits
ranges_last = refl

-- a save of the last state, and a file that resumes from one
pub saved : request_of (codes "--save" ∷ codes "s.sav" ∷ codes "a.gms" ∷ []) ≡ Some (record { source = in_file (codes "a.gms"); output = codes "a.lst"; save = Some (codes "s.sav"); ranges = false })
unfolding clap_on_literals
saved = refl

pub saved_model : request_of (codes "--generate=2" ∷ codes "--save=s.sav" ∷ []) ≡ Some (record { source = generated 2; output = codes "generate.lst"; save = Some (codes "s.sav"); ranges = false })
unfolding clap_on_literals digits
saved_model = refl

pub restart : request_of (codes "--restart" ∷ codes "s.sav" ∷ codes "b.gms" ∷ []) ≡ Some (record { source = restarted (codes "s.sav") (codes "b.gms"); output = codes "b.lst"; save = None; ranges = false })
unfolding clap_on_literals
restart = refl

pub restart_and_save : request_of (codes "--restart=s.sav" ∷ codes "--save=t.sav" ∷ codes "b.gms" ∷ codes "--out=c" ∷ []) ≡ Some (record { source = restarted (codes "s.sav") (codes "b.gms"); output = codes "c"; save = Some (codes "t.sav"); ranges = false })
unfolding clap_on_literals
restart_and_save = refl

-- refused: a generated model that resumes, a saved state alone, a save twice
pub restart_of_model : request_of (codes "--restart" ∷ codes "s.sav" ∷ codes "--generate" ∷ codes "1" ∷ []) ≡ None
unfolding clap_on_literals digits
restart_of_model = refl

pub restart_alone : request_of (codes "--restart" ∷ codes "s.sav" ∷ []) ≡ None
unfolding clap_on_literals
restart_alone = refl

pub save_twice : request_of (codes "--save=s" ∷ codes "--save=t" ∷ codes "a.gms" ∷ []) ≡ None
unfolding clap_on_literals
save_twice = refl

-- refused: no number, or none from 1 to 30 as it has to be written
pub no_number : request_of (codes "--generate" ∷ []) ≡ None
unfolding clap_on_literals digits
no_number = refl

pub zero_number : request_of (codes "--generate" ∷ codes "0" ∷ []) ≡ None
unfolding clap_on_literals digits
zero_number = refl

pub leading_zero : request_of (codes "--generate" ∷ codes "01" ∷ []) ≡ None
unfolding clap_on_literals digits
leading_zero = refl

pub with_sign : request_of (codes "--generate" ∷ codes "+5" ∷ []) ≡ None
unfolding clap_on_literals digits
with_sign = refl

pub too_large : request_of (codes "--generate" ∷ codes "31" ∷ []) ≡ None
unfolding clap_on_literals digits
too_large = refl

-- refused: neither source, both, two files, an option twice, an unknown one, a request for help
pub neither : request_of [] ≡ None
unfolding clap_on_literals
neither = refl

pub output_alone : request_of (codes "--out" ∷ codes "b" ∷ []) ≡ None
unfolding clap_on_literals
output_alone = refl

pub both : request_of (codes "--generate" ∷ codes "1" ∷ codes "a.gms" ∷ []) ≡ None
unfolding clap_on_literals digits
both = refl

pub two_files : request_of (codes "a.gms" ∷ codes "b.gms" ∷ []) ≡ None
unfolding clap_on_literals
two_files = refl

pub twice : request_of (codes "--out" ∷ codes "b" ∷ codes "--out" ∷ codes "c" ∷ codes "a.gms" ∷ []) ≡ None
unfolding clap_on_literals
twice = refl

pub flag_twice : request_of (codes "--ranges" ∷ codes "--ranges" ∷ codes "a.gms" ∷ []) ≡ None
unfolding clap_on_literals
flag_twice = refl

pub flag_with_value : request_of (codes "--ranges=true" ∷ codes "a.gms" ∷ []) ≡ None
unfolding clap_on_literals
flag_with_value = refl

pub unknown : request_of (codes "-x" ∷ codes "a.gms" ∷ []) ≡ None
unfolding clap_on_literals
unknown = refl

pub help : request_of (codes "a.gms" ∷ codes "--help" ∷ []) ≡ None
unfolding clap_on_literals
help = refl
