-- The numbers and names of source errors, and which of them the faults of tokens and of expressions
-- are (GAMS User's Guide, "GAMS Output", compilation errors; the numbers are this project's).
use Rattle.std.specs.Prelude.{ℕ, List, codes}
use Rattle.gms_labels.specs.declared.place.Place.{Place}
use Rattle.gms_grammar.specs.Errors.{lex_error_code as lexical_code, lex_error_name as lexical_name}
use Rattle.gms_lex.specs.declared.fault.LexFault.{LexFault}
use Rattle.gms_lex.specs.declared.fault.LexFaultOrMemory.{LexFaultOrMemory}
use Rattle.gms_lex.specs.declared.fault.LexFaultOrMemory.TheVariants as lexed
use Rattle.gms_expressions.specs.Faults.{syntax_error_code as syntax_code, syntax_error_name as syntax_name}
use Rattle.gms_expressions.specs.declared.fault.SyntaxError.TheVariants.{TooManyLabels}
use Rattle.gms_expressions.specs.declared.fault.SyntaxFault.{SyntaxFault}
use Rattle.gms_expressions.specs.declared.fault.SyntaxFaultOrMemory.{SyntaxFaultOrMemory}
use Rattle.gms_expressions.specs.declared.fault.SyntaxFaultOrMemory.TheVariants as read
use Rattle.gms_table.specs.Faults.{table_error_code as table_code, table_error_name as table_name}
use Rattle.gms_table.specs.declared.fault.TableError.{TableError}
use Rattle.gms_table.specs.declared.fault.TableError.TheVariants as table
use Rattle.gms_table.specs.declared.fault.TableFaultOrMemory.{TableFaultOrMemory}
use Rattle.gms_table.specs.declared.fault.TableFaultOrMemory.TheVariants as tabled
use Rattle.gms_parse.specs.declared.fault.SourceError.{SourceError}
use Rattle.gms_parse.specs.declared.fault.SourceError.TheVariants.{TooLong, Lexical, Syntax, Table}
use Rattle.gms_parse.specs.declared.fault.SourceFault.{SourceFault}
use Rattle.gms_parse.specs.declared.fault.SourceFaultOrMemory.{SourceFaultOrMemory}
use Rattle.gms_parse.specs.declared.fault.SourceFaultOrMemory.TheVariants.{Memory, Fault}

-- the number of a source error in a listing
abbrev pub source_error_code : SourceError → ℕ
source_error_code TooLong = 9
source_error_code (Lexical error) = lexical_code error
source_error_code (Syntax error) = syntax_code error
source_error_code (Table error) = table_code error

-- the name of a source error in a listing
abbrev pub source_error_name : SourceError → List ℕ
source_error_name TooLong = codes "TooLong"
source_error_name (Lexical error) = lexical_name error
source_error_name (Syntax error) = syntax_name error
source_error_name (Table error) = table_name error

-- a syntax fault, as a source fault
abbrev pub source_fault : SyntaxFault → SourceFault
source_fault fault = record { error = Syntax fault.error; at = fault.at }

-- a lexical fault, as a source fault
abbrev pub lexical_fault : LexFault → SourceFault
lexical_fault fault = record { error = Lexical fault.error; at = fault.at }

-- an error of a table as a source error; `Labels`, a new label for which the table of labels is
-- full, is the syntax error TooManyLabels, just as outside of tables
abbrev pub error_of_table : TableError → SourceError
error_of_table table.Labels = Syntax TooManyLabels
error_of_table error = Table error

-- the source fault with this error at this place
abbrev pub fault_at : SourceError → Place → SourceFaultOrMemory
fault_at error at = Fault (record { error = error; at = at })

-- an error of a table as a source fault: `NoHeading` is at the place `name` of the table's name,
-- any other error at the place `at`
abbrev pub table_fault_at : TableError → Place → Place → SourceFaultOrMemory
table_fault_at table.NoHeading at name = fault_at (Table table.NoHeading) name
table_fault_at error at name = fault_at (error_of_table error) at

-- the result in place of a program, given why a table has no entries: out of memory, or the fault
-- as a source fault, which is at the place `name` of the table's name if the fault is NoHeading,
-- else at the fault's own place
abbrev pub fault_of_table : TableFaultOrMemory → Place → SourceFaultOrMemory
fault_of_table tabled.Memory name = Memory
fault_of_table (tabled.Fault fault) name = table_fault_at fault.error fault.at name

-- the result in place of a program, given why the source has no tokens
abbrev pub fault_of_lexical : LexFaultOrMemory → SourceFaultOrMemory
fault_of_lexical lexed.Memory = Memory
fault_of_lexical (lexed.Fault fault) = Fault (lexical_fault fault)

-- the result in place of a program, given why a part of an expression was not read
abbrev pub fault_of_syntax : SyntaxFaultOrMemory → SourceFaultOrMemory
fault_of_syntax read.Memory = Memory
fault_of_syntax (read.Fault fault) = Fault (source_fault fault)
