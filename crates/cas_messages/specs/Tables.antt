-- The messages: a table for each (Remote Execution API v2; google.bytestream; google.rpc.Status; build.buildgrid).

use Rattle.cas_messages.specs.Table.{int32, int64, bool, text, bytes, digest, optional_digest, int32_list, text_list, bytes_list, digest_list, Table, end, field, message, message_list, ◌▹◌}

-- ---- google.rpc.Status.

abbrev pub rpc_status : Table
rpc_status =
    field 1 int32  -- code
    ▹ field 2 text  -- message
    ▹ end

-- ---- The messages of ContentAddressableStorage on blobs (Remote Execution API v2).

abbrev pub find_missing_blobs_request : Table
find_missing_blobs_request =
    field 1 text  -- instance_name
    ▹ field 2 digest_list  -- blob_digests
    ▹ field 3 int32  -- digest_function
    ▹ end

abbrev pub find_missing_blobs_response : Table
find_missing_blobs_response =
    field 2 digest_list  -- missing_blob_digests
    ▹ end

abbrev pub batch_update_blobs_request_item2 : Table
batch_update_blobs_request_item2 =
    field 1 digest  -- digest
    ▹ field 2 bytes  -- bytes
    ▹ field 3 int32  -- compressor
    ▹ end

abbrev pub batch_update_blobs_request : Table
batch_update_blobs_request =
    field 1 text  -- instance_name
    ▹ message_list 2 batch_update_blobs_request_item2  -- requests
    ▹ field 5 int32  -- digest_function
    ▹ end

abbrev pub batch_update_blobs_response_item1 : Table
batch_update_blobs_response_item1 =
    field 1 digest  -- digest
    ▹ message 2 rpc_status  -- status
    ▹ end

abbrev pub batch_update_blobs_response : Table
batch_update_blobs_response =
    message_list 1 batch_update_blobs_response_item1  -- responses
    ▹ end

abbrev pub batch_read_blobs_request : Table
batch_read_blobs_request =
    field 1 text  -- instance_name
    ▹ field 2 digest_list  -- digests
    ▹ field 3 int32_list  -- acceptable_compressors
    ▹ field 4 int32  -- digest_function
    ▹ end

abbrev pub batch_read_blobs_response_item1 : Table
batch_read_blobs_response_item1 =
    field 1 digest  -- digest
    ▹ field 2 bytes  -- bytes
    ▹ message 3 rpc_status  -- status
    ▹ field 4 int32  -- compressor
    ▹ end

abbrev pub batch_read_blobs_response : Table
batch_read_blobs_response =
    message_list 1 batch_read_blobs_response_item1  -- responses
    ▹ end

-- ---- The messages of GetTree (Remote Execution API v2).

abbrev pub get_tree_request : Table
get_tree_request =
    field 1 text  -- instance_name
    ▹ field 2 digest  -- root_digest
    ▹ field 3 int32  -- page_size
    ▹ field 4 text  -- page_token
    ▹ field 5 int32  -- digest_function
    ▹ end

abbrev pub get_tree_response : Table
get_tree_response =
    field 1 bytes_list  -- directories
    ▹ field 2 text  -- next_page_token
    ▹ end

-- ---- The messages of Capabilities (Remote Execution API v2).

abbrev pub get_capabilities_request : Table
get_capabilities_request =
    field 1 text  -- instance_name
    ▹ end

abbrev pub sem_ver : Table
sem_ver =
    field 1 int32  -- major
    ▹ field 2 int32  -- minor
    ▹ field 3 int32  -- patch
    ▹ end

abbrev pub cache_capabilities : Table
cache_capabilities =
    field 1 int32_list  -- digest_functions
    ▹ field 4 int64  -- max_batch_total_size_bytes
    ▹ field 5 int32  -- symlink_absolute_path_strategy
    ▹ end

abbrev pub server_capabilities : Table
server_capabilities =
    message 1 cache_capabilities  -- cache_capabilities
    ▹ message 4 sem_ver  -- low_api_version
    ▹ message 5 sem_ver  -- high_api_version
    ▹ end

-- ---- The messages of ByteStream (google.bytestream).

abbrev pub read_request : Table
read_request =
    field 1 text  -- resource_name
    ▹ field 2 int64  -- read_offset
    ▹ field 3 int64  -- read_limit
    ▹ end

abbrev pub read_response : Table
read_response =
    field 10 bytes  -- bytes
    ▹ end

abbrev pub write_request : Table
write_request =
    field 1 text  -- resource_name
    ▹ field 2 int64  -- write_offset
    ▹ field 3 bool  -- finish_write
    ▹ field 10 bytes  -- bytes
    ▹ end

abbrev pub write_response : Table
write_response =
    field 1 int64  -- committed_size
    ▹ end

abbrev pub query_write_status_request : Table
query_write_status_request =
    field 1 text  -- resource_name
    ▹ end

abbrev pub query_write_status_response : Table
query_write_status_response =
    field 1 int64  -- committed_size
    ▹ field 2 bool  -- complete
    ▹ end

-- ---- The messages of LocalContentAddressableStorage that fetch and upload (build.buildgrid).

abbrev pub fetch_missing_blobs_request : Table
fetch_missing_blobs_request =
    field 1 text  -- instance_name
    ▹ field 2 digest_list  -- blob_digests
    ▹ end

abbrev pub fetch_missing_blobs_response_item1 : Table
fetch_missing_blobs_response_item1 =
    field 1 digest  -- digest
    ▹ message 2 rpc_status  -- status
    ▹ end

abbrev pub fetch_missing_blobs_response : Table
fetch_missing_blobs_response =
    message_list 1 fetch_missing_blobs_response_item1  -- responses
    ▹ end

abbrev pub upload_missing_blobs_request : Table
upload_missing_blobs_request =
    field 1 text  -- instance_name
    ▹ field 2 digest_list  -- blob_digests
    ▹ end

abbrev pub upload_missing_blobs_response_item1 : Table
upload_missing_blobs_response_item1 =
    field 1 digest  -- digest
    ▹ message 2 rpc_status  -- status
    ▹ end

abbrev pub upload_missing_blobs_response : Table
upload_missing_blobs_response =
    message_list 1 upload_missing_blobs_response_item1  -- responses
    ▹ end

abbrev pub fetch_tree_request : Table
fetch_tree_request =
    field 1 text  -- instance_name
    ▹ field 2 digest  -- root_digest
    ▹ field 3 bool  -- fetch_file_blobs
    ▹ end

abbrev pub fetch_tree_response : Table
fetch_tree_response = end

abbrev pub upload_tree_request : Table
upload_tree_request =
    field 1 text  -- instance_name
    ▹ field 2 digest  -- root_digest
    ▹ end

abbrev pub upload_tree_response : Table
upload_tree_response = end

-- ---- The messages of LocalContentAddressableStorage that stage a tree (build.buildgrid).

abbrev pub stage_tree_request : Table
stage_tree_request =
    field 1 text  -- instance_name
    ▹ field 2 optional_digest  -- root_digest
    ▹ field 3 text  -- path
    ▹ end

abbrev pub stage_tree_response : Table
stage_tree_response =
    field 1 text  -- path
    ▹ end

-- ---- The messages of LocalContentAddressableStorage that capture folders and files (build.buildgrid).

abbrev pub capture_tree_request : Table
capture_tree_request =
    field 1 text  -- instance_name
    ▹ field 2 text_list  -- path
    ▹ field 3 bool  -- bypass_local_cache
    ▹ field 4 text_list  -- node_properties
    ▹ end

abbrev pub capture_tree_response_item1 : Table
capture_tree_response_item1 =
    field 1 text  -- path
    ▹ field 2 optional_digest  -- tree_digest
    ▹ message 3 rpc_status  -- status
    ▹ end

abbrev pub capture_tree_response : Table
capture_tree_response =
    message_list 1 capture_tree_response_item1  -- responses
    ▹ end

abbrev pub capture_files_request : Table
capture_files_request =
    field 1 text  -- instance_name
    ▹ field 2 text_list  -- path
    ▹ field 3 bool  -- bypass_local_cache
    ▹ field 4 text_list  -- node_properties
    ▹ end

abbrev pub capture_files_response_item1 : Table
capture_files_response_item1 =
    field 1 text  -- path
    ▹ field 2 optional_digest  -- digest
    ▹ message 3 rpc_status  -- status
    ▹ field 4 bool  -- is_executable
    ▹ end

abbrev pub capture_files_response : Table
capture_files_response =
    message_list 1 capture_files_response_item1  -- responses
    ▹ end
